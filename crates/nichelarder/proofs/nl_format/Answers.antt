-- `nichelarder::nl_format` meets its contract: the copy of the entries is the entries.
use mathlib.Core.Path.{◌≡◌, ap, ◌∙◌}
use mathlib.Core.List.{List}
use Prim.Native.Nat.{ℕ}
use lib.ListN.{length, replicate}
use Rattle.model.specs.Limits.{matrix_entries}
use Rattle.model.specs.Calls.Format.{format_of}
use Rattle.base_numbers.specs.Over.{over_all}
use Rattle.nichelarder.specs.Numbers.{settings}
use Rattle.nichelarder.proofs.nl_format.Goals as goal

pub returns : goal.returns
returns c =
    let s = c.args in
    let n : length s.matrix.now ≡ matrix_entries = c.if-matrix-ne-ENTRIES.false in
    let m = c.copy_in.ensures ∙ over_all s.matrix.now (replicate matrix_entries 0) n in
    let st = settings s.pages s.target s.tolerance s.form in record {
      number = c.number-2.ensures ∙ c.format-2.ensures.number ∙ ap (λ (l : List ℕ). (format_of s.image.now st l s.label).0) m;
      image = c.format-2.ensures.image ∙ ap (λ (l : List ℕ). (format_of s.image.now st l s.label).1) m;
    }
