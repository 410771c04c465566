-- Format: a root aggregate alone, or the image as it was.
use Rattle.std.specs.Prelude.{not, ◌&&◌, List, [], ◌∷◌, ℕ, ◌/◌, ◌<◌, length, eqb}
use Rattle.model.specs.Limits.{page_size}
use Rattle.model.specs.Row.{Head, nil, agg, Config, image, in_range}
use Rattle.model.specs.Tree.{end, branch}
use Rattle.model.specs.Growth.{no_work}
use Rattle.model.specs.Reading.{length_ok}
use Rattle.model.specs.Answers.{wrong_length, wrong_settings, first_refusal}
use Rattle.model.specs.Common.{accept}
use Rattle.model.specs.Effect.{Effect}
use Rattle.model.specs.declared.Settings.{Settings}

abbrev pub config : Settings → (matrix : List ℕ) → Config
config s m = record { pages = s.pages; target = s.target; tolerance = s.tolerance; form = s.form; matrix = m }

-- The settings are out of range, or the page count is not the image's.
unfoldable pub format_number : (image_length : ℕ) → Config → ℕ
format_number n st = first_refusal ((wrong_length, not (length_ok n)) ∷ (wrong_settings, not (in_range st && eqb st.pages (n / page_size))) ∷ [])

-- What the header of a formatted root says.
abbrev pub root_head : (label : ℕ) → Head
root_head label = record { origin = 0; label = label }

unfoldable pub format_of : (img : List ℕ) → Settings → (matrix : List ℕ) → (label : ℕ) → ℕ × List ℕ
format_of img s m label =
    let n = format_number (length img) (config s m) in
    accept n (0, image (config s m) (agg (root_head label) nil nil)) (n, img)

-- The plain tree: one aggregate with the root label, no children.
abbrev pub format_call : Settings → (matrix : List ℕ) → (label : ℕ) → Effect
format_call s m label = record {
  Typed = label < 65536;
  Answer = ℕ;
  number = λ n. n;
  growth = λ img. no_work;
  on_image = λ img. format_of img s m label;
  on_tree = λ f h t.
      let n = format_number f.image_length (config s m) in
      (n, accept n (branch (root_head label) end end) t);
}
