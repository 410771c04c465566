-- The starred lines of the bench sheet: calls on image bytes, computed from the definitions.
use Rattle.std.specs.Prelude.{◌≡◌, refl, false, List, [], ◌∷◌, ◌++◌, ℕ, zero, suc, ◌+◌, ◌*◌, take, replicate, ℤ, pos, negsuc}
use Rattle.std.proofs.Common.{sym, ap, ◌∙◌}
use Rattle.std.proofs.Math.Option.{Option, none, some}
use Rattle.model.specs.Limits.{page_size, capacity, most_content, most_node, longest_path}
use Rattle.model.specs.Row.{Row, nil, agg, lit, rec, ◌⊹◌, record_size, header, bytes, two, Config, image, in_range, valid, no_head}
use Rattle.model.specs.Tree.{shown, New, place_at, place_of}
use Rattle.model.specs.Spot.{stand_in, Spot, spot_in, spot_of}
use Rattle.model.specs.Growth.{received, rise, from_spot, Out, at_rest, grow, kept, close, separator, separate, cut_from, grouped, free_from, start_of_d}
use Rattle.model.specs.Growth.{split_point}
use Rattle.model.specs.Reading.{length_ok, two_at, page_of, nodes_in, same_bytes, reading, used_at}
use Rattle.model.specs.Answers.{usual_settings, find_refused, insert_refused}
use Rattle.model.specs.Common.{accept, place_or, on_store, opened}
use Rattle.model.specs.Calls.Format.{config, format_number, format_of}
use Rattle.model.specs.Calls.Insert.{new_of, insert_number, insert_of}
use Rattle.model.specs.Calls.Find.{find_in, find_of}
use Rattle.model.specs.Answers.{InsertAnswer}

-- An image of n pages with the usual settings, formatted with root label 7.
abbrev fresh : (pages : ℕ) → List ℕ
fresh n = (format_of (replicate (page_size * n) 0) (usual_settings n) (replicate 256 2) 7).1

-- A literal of n zero bytes put in at child k of the root: the answer, and the image after it.
abbrev put : (img : List ℕ) → (k n : ℕ) → InsertAnswer × List ℕ
put img k n = insert_of img [] k 2 0 9 (replicate n 0)

-- So many literals of 520 bytes put in from child k on.
abbrev filled : (count k : ℕ) → (img : List ℕ) → List ℕ
filled zero k img = img
filled (suc n) k img = filled n (suc k) (put img k most_content).1

-- The length used of a page, and its first bytes.
abbrev used : (img : List ℕ) → (page : ℕ) → ℕ
used img q = used_at (page_of img q) 0

abbrev answer : (page offset splits : ℕ) → (lean : ℤ) → InsertAnswer
answer p o s l = record { number = 0; place = record { page = p; offset = o }; splits = s; lean = l }

abbrev usual : (pages : ℕ) → Config
usual n = config (usual_settings n) (replicate 256 2)

-- The listing's image.
abbrev listing : List ℕ
listing = (insert_of (insert_of (fresh 3) [] 0 2 0 9 (0x41 ∷ 0x42 ∷ [])).1 [] 0 1 0 300 []).1

-- Seven literals of 520 bytes in five pages, and in three; then one after another, four more in five pages.
abbrev seven : List ℕ
seven = filled 7 0 (fresh 5)

abbrev seven_in_three : List ℕ
seven_in_three = filled 7 0 (fresh 3)

abbrev eight : InsertAnswer × List ℕ
eight = put seven 7 most_content

abbrev nine : InsertAnswer × List ℕ
nine = put eight.1 8 most_content

abbrev ten : InsertAnswer × List ℕ
ten = put nine.1 9 most_content

abbrev eleven : InsertAnswer × List ℕ
eleven = put ten.1 10 most_content

-- So many literals of 520 zero bytes, as a row.
abbrev lits : ℕ → Row
lits zero = nil
lits (suc n) = lit (record { origin = 0; label = 9 }) (replicate most_content 0) (lits n)

-- The literal of `put`, and what growth makes of it from a spot on.
abbrev literal : (n : ℕ) → New
literal n = new_of 2 0 9 (replicate n 0)

abbrev grown_from : Config → Row → (n : ℕ) → Option Spot → Out
grown_from st root n t = from_spot st (literal n) root t

-- The answer and the image of `put`, from what growth makes of it.
abbrev ended : (img : List ℕ) → Config → Row → (k n : ℕ) → Out → InsertAnswer × List ℕ
ended img st root k n o =
    let m = insert_number (shown root) [] k (literal n) o.1.full in
    let place = place_or (place_of o.0 (k ∷ [])) in
    accept m (record { number = 0; place = place; splits = o.1.splits; lean = o.1.lean }, image st o.0) (insert_refused m, img)

-- Of the record that takes the literal, with it, which is what growth looks at in step 3.
abbrev of_received : (Config → Row → ℕ) → Config → (root : Row) → (n : ℕ) → Option Spot → ℕ
of_received f st root n none = 0
of_received f st root n (some t) = f st (received st (literal n) t (at_rest st root)).0

-- S, p and the start of d of that record, in the image that `put` is called on.
abbrev of_joined : (Config → Row → ℕ) → (img : List ℕ) → (k n : ℕ) → ℕ
of_joined f img k n = on_store (opened img) (λ m. 0) (λ st root. of_received f st root n (spot_of root [] k))

abbrev size_s : (img : List ℕ) → (k n : ℕ) → ℕ
size_s = of_joined (λ st r. record_size r)

abbrev point_p : (img : List ℕ) → (k n : ℕ) → ℕ
point_p = of_joined (λ st r. split_point st (record_size r))

abbrev start_d : (img : List ℕ) → (k n : ℕ) → ℕ
start_d = of_joined start_of_d

-- n aggregates, each the one child of the one before, below the root.
abbrev chain : (n : ℕ) → (img : List ℕ) → List ℕ
chain zero img = img
chain (suc n) img = let r = chain n img in (insert_of r (replicate (4 * n) 0) 0 1 0 1 []).1

-- A record's bytes: a helper over so many literals of 520 zero bytes; the root over proxies to pages from 2 on.
abbrev helper_of : (count : ℕ) → List ℕ
helper_of k = header 4 no_head (6 + k * most_node) ++ bytes (lits k)

abbrev proxies : (count page : ℕ) → List ℕ
proxies zero q = []
proxies (suc k) q = header 3 no_head 8 ++ two q ++ proxies k (suc q)

abbrev root_bytes : (count : ℕ) → List ℕ
root_bytes k = header 1 (record { origin = 0; label = 7 }) (6 + 8 * k) ++ proxies k 2

-- The record of a page, as long as its trailer says.
abbrev held : (img : List ℕ) → (page : ℕ) → List ℕ
held img q = take (used img q) (page_of img q)

pub record BenchSheet : Type 0 where
  -- Page 1 of the listing's image begins so; length 20.
  pub listed : take 20 (page_of listing 1)
      ≡ 0x01 ∷ 0x00 ∷ 0x07 ∷ 0x00 ∷ 0x14 ∷ 0x00 ∷ 0x01 ∷ 0x00 ∷ 0x2c ∷ 0x01 ∷ 0x06 ∷ 0x00 ∷ 0x02 ∷ 0x00 ∷ 0x09 ∷ 0x00 ∷ 0x08 ∷ 0x00 ∷ 0x41 ∷ 0x42 ∷ []
  pub listed_used : used listing 1 ≡ 20
  -- Root and seven 520-byte literals: 3,688 bytes. A last literal of 386 bytes gives 4,080 and no split.
  pub seven_used : used seven 1 ≡ 3688
  pub last386 : (put seven 7 386).0 ≡ answer 1 3688 0 (pos 0)
  pub last386_used : used (put seven 7 386).1 1 ≡ capacity
  -- In every image, what the call keeps or splits at the end is the root record as the literal's coming in leaves it. Where no other record stands,
  -- as in the lines with S, p and d below, that is the record with the literal in it, and S, p and d are its.
  pub splitting : (img : List ℕ) (k n : ℕ)
      → put img k n ≡ on_store (opened img) (λ m. (insert_refused m, img)) (λ st root. ended img st root k n (grown_from st root n (spot_of root [] k)))
  -- With 387 bytes instead: S 4,081, p 2,040, d starts at 1,584, lean -456.
  pub last387_s : size_s seven 7 387 ≡ 4081
  pub last387p : point_p seven 7 387 ≡ 2040
  pub last387d : start_d seven 7 387 ≡ 1584
  pub last387 : (put seven 7 387).0 ≡ answer 3 2110 1 (negsuc 455)
  -- E2, with target 128: 2,040.5 stays 2,040, and S of 4,083 gives 2,042. With 389 bytes instead: S 4,083, p 2,042, d starts at 1,584, lean -458.
  pub nearest : (st : Config) → st.target ≡ 128 → (split_point st 4081 ≡ 2040) × (split_point st 4083 ≡ 2042)
  pub last389_s : size_s seven 7 389 ≡ 4083
  pub last389p : point_p seven 7 389 ≡ 2042
  pub last389d : start_d seven 7 389 ≡ 1584
  pub last389 : (put seven 7 389).0 ≡ answer 3 2110 1 (negsuc 457)
  -- With 520 instead: p 2,107, lean -523; page 2 has three literals (1,584 bytes), page 3 five (2,636), the root is 22 bytes.
  pub last520_s : size_s seven 7 most_content ≡ 4214
  pub last520p : point_p seven 7 most_content ≡ 2107
  pub last520d : start_d seven 7 most_content ≡ 1584
  pub last520 : eight.0 ≡ answer 3 2110 1 (negsuc 522)
  pub last520_used : (used eight.1 1 ≡ 22) × (used eight.1 2 ≡ 1584) × (used eight.1 3 ≡ 2636)
  pub last520_pages : (held eight.1 1 ≡ root_bytes 2) × (held eight.1 2 ≡ helper_of 3) × (held eight.1 3 ≡ helper_of 5)
  -- The same in a 3-page image: 12, and the image as it was.
  pub full : put seven_in_three 7 most_content ≡ (insert_refused 12, seven_in_three)
  -- Three more appended in five pages: page 3 splits to pages 3 and 4, the root is 30 bytes, one split reported.
  pub more : (nine.0 ≡ answer 3 2636 0 (pos 0)) × (ten.0 ≡ answer 3 3162 0 (pos 0)) × (eleven.0 ≡ answer 4 2110 1 (negsuc 522))
  pub more_used : (used eleven.1 1 ≡ 30) × (used eleven.1 2 ≡ 1584) × (used eleven.1 3 ≡ 1584) × (used eleven.1 4 ≡ 2636)
  pub more_pages : (held eleven.1 1 ≡ root_bytes 3) × (held eleven.1 2 ≡ helper_of 3) × (held eleven.1 3 ≡ helper_of 3)
      × (held eleven.1 4 ≡ helper_of 5)
  -- Content 520 goes in; 521 gives 6; 521 under a path of 23 gives 4.
  pub content520 : (put (fresh 3) 0 most_content).0 ≡ answer 1 6 0 (pos 0)
  pub content521 : put (fresh 3) 0 521 ≡ (insert_refused 6, fresh 3)
  pub deep521 : insert_of (fresh 3) (replicate longest_path 0) 0 2 0 9 (replicate 521 0) ≡ (insert_refused 4, fresh 3)
  -- In a chain of 24 nodes, Find with 23 zeros gives the last; with 24 it gives 4.
  pub chain23 : find_of (chain 23 (fresh 3)) (replicate longest_path 0) ≡ record { number = 0; place = record { page = 1; offset = 138 } }
  pub chain24 : find_of (chain 23 (fresh 3)) (replicate 96 0) ≡ find_refused 4

-- ── the images, one call after another ──

-- Naming this unfolds every definition that the calls compute with.
computed : Unit {0}
unfolding image in_range valid place_at two_at grow stand_in spot_in rise kept close separator separate cut_from grouped free_from split_point length_ok
    nodes_in same_bytes reading insert_number find_in format_number opened format_of insert_of find_of
computed = tt

abbrev root_of : Row → Row
root_of children = agg (record { origin = 0; label = 7 }) children nil

abbrev helper : (page count : ℕ) → (rest : Row) → Row
helper q k rest = rec q false (lits k) rest

abbrev seven_image : (pages : ℕ) → List ℕ
seven_image n = image (usual n) (root_of (lits 7))

abbrev with_last : ℕ → Row
with_last n = root_of (lits 7 ⊹ lit (record { origin = 0; label = 9 }) (replicate n 0) nil)

abbrev eight_image : List ℕ
eight_image = image (usual 5) (root_of (helper 2 3 (helper 3 5 nil)))

abbrev nine_image : List ℕ
nine_image = image (usual 5) (root_of (helper 2 3 (helper 3 6 nil)))

abbrev ten_image : List ℕ
ten_image = image (usual 5) (root_of (helper 2 3 (helper 3 7 nil)))

abbrev eleven_image : List ℕ
eleven_image = image (usual 5) (root_of (helper 2 3 (helper 3 3 (helper 4 5 nil))))

abbrev chain_row : ℕ → Row
chain_row zero = nil
chain_row (suc n) = agg (record { origin = 0; label = 1 }) (chain_row n) nil

seven_is : filled 7 0 (fresh 5) ≡ seven_image 5
unfolding computed
seven_is = refl

seven_in_three_lem : filled 7 0 (fresh 3) ≡ seven_image 3
unfolding computed
seven_in_three_lem = refl

eight_is : put (seven_image 5) 7 most_content ≡ (answer 3 2110 1 (negsuc 522), eight_image)
unfolding computed
eight_is = refl

nine_is : put eight_image 8 most_content ≡ (answer 3 2636 0 (pos 0), nine_image)
unfolding computed
nine_is = refl

ten_is : put nine_image 9 most_content ≡ (answer 3 3162 0 (pos 0), ten_image)
unfolding computed
ten_is = refl

eleven_is : put ten_image 10 most_content ≡ (answer 4 2110 1 (negsuc 522), eleven_image)
unfolding computed
eleven_is = refl

chain_is : chain 23 (fresh 3) ≡ image (usual 3) (root_of (chain_row 23))
unfolding computed
chain_is = refl

-- ── the lines on them ──

splitting_is : (img : List ℕ) (k n : ℕ)
    → put img k n ≡ on_store (opened img) (λ m. (insert_refused m, img)) (λ st root. ended img st root k n (grown_from st root n (spot_of root [] k)))
unfolding insert_of grow
splitting_is img k n = refl

last386_is : put (seven_image 5) 7 386 ≡ (answer 1 3688 0 (pos 0), image (usual 5) (with_last 386))
unfolding computed
last386_is = refl

last387_is : (put (seven_image 5) 7 387).0 ≡ answer 3 2110 1 (negsuc 455)
unfolding computed
last387_is = refl

last389_is : (put (seven_image 5) 7 389).0 ≡ answer 3 2110 1 (negsuc 457)
unfolding computed
last389_is = refl

nearest_is : (st : Config) → st.target ≡ 128 → (split_point st 4081 ≡ 2040) × (split_point st 4083 ≡ 2042)
unfolding split_point
nearest_is st e = (rw e refl, rw e refl)

-- S, p and d where seven literals and one of n stand in the image.
aims : (n s p d : ℕ) → (size_s (seven_image 5) 7 n ≡ s) × (point_p (seven_image 5) 7 n ≡ p) × (start_d (seven_image 5) 7 n ≡ d)
    → (size_s seven 7 n ≡ s) × (point_p seven 7 n ≡ p) × (start_d seven 7 n ≡ d)
aims n s p d e = (
  ap (λ (img : List ℕ). size_s img 7 n) seven_is ∙ e.0,
  ap (λ (img : List ℕ). point_p img 7 n) seven_is ∙ e.1,
  ap (λ (img : List ℕ). start_d img 7 n) seven_is ∙ e.2,
)

aims387 : (size_s (seven_image 5) 7 387 ≡ 4081) × (point_p (seven_image 5) 7 387 ≡ 2040) × (start_d (seven_image 5) 7 387 ≡ 1584)
unfolding computed
aims387 = (refl, refl, refl)

aims389 : (size_s (seven_image 5) 7 389 ≡ 4083) × (point_p (seven_image 5) 7 389 ≡ 2042) × (start_d (seven_image 5) 7 389 ≡ 1584)
unfolding computed
aims389 = (refl, refl, refl)

aims520 : (size_s (seven_image 5) 7 most_content ≡ 4214) × (point_p (seven_image 5) 7 most_content ≡ 2107) × (start_d (seven_image 5) 7 most_content ≡ 1584)
unfolding computed
aims520 = (refl, refl, refl)

full_is : put (seven_image 3) 7 most_content ≡ (insert_refused 12, seven_image 3)
unfolding computed
full_is = refl

sizes : (used (seven_image 5) 1 ≡ 3688) × (used (image (usual 5) (with_last 386)) 1 ≡ capacity)
    × (used eight_image 1 ≡ 22) × (used eight_image 2 ≡ 1584) × (used eight_image 3 ≡ 2636)
    × (used eleven_image 1 ≡ 30) × (used eleven_image 2 ≡ 1584) × (used eleven_image 3 ≡ 1584) × (used eleven_image 4 ≡ 2636)
unfolding image two_at
sizes = (refl, refl, refl, refl, refl, refl, refl, refl, refl)

pages : (held eight_image 1 ≡ root_bytes 2) × (held eight_image 2 ≡ helper_of 3) × (held eight_image 3 ≡ helper_of 5)
    × (held eleven_image 1 ≡ root_bytes 3) × (held eleven_image 2 ≡ helper_of 3) × (held eleven_image 3 ≡ helper_of 3) × (held eleven_image 4 ≡ helper_of 5)
unfolding image two_at
pages = (refl, refl, refl, refl, refl, refl, refl)

found : (find_of (image (usual 3) (root_of (chain_row 23))) (replicate longest_path 0) ≡ record { number = 0; place = record { page = 1; offset = 138 } })
    × (find_of (image (usual 3) (root_of (chain_row 23))) (replicate 96 0) ≡ find_refused 4)
unfolding computed
found = (refl, refl)

-- Eight to eleven literals, from the first image on.
next_is : {before : InsertAnswer × List ℕ} {a : InsertAnswer} {img : List ℕ} {after : InsertAnswer × List ℕ} (k : ℕ)
    → before ≡ (a, img) → put img k most_content ≡ after → put before.1 k most_content ≡ after
next_is k e f = ap (λ (z : InsertAnswer × List ℕ). put z.1 k most_content) e ∙ f

eight_all : eight ≡ (answer 3 2110 1 (negsuc 522), eight_image)
eight_all = ap (λ (img : List ℕ). put img 7 most_content) seven_is ∙ eight_is

nine_all : nine ≡ (answer 3 2636 0 (pos 0), nine_image)
nine_all = next_is 8 eight_all nine_is

ten_all : ten ≡ (answer 3 3162 0 (pos 0), ten_image)
ten_all = next_is 9 nine_all ten_is

eleven_all : eleven ≡ (answer 4 2110 1 (negsuc 522), eleven_image)
eleven_all = next_is 10 ten_all eleven_is

-- The answer of a pair, and what is said of its image.
answer_of_lem : {z : InsertAnswer × List ℕ} {a : InsertAnswer} {img : List ℕ} → z ≡ (a, img) → z.0 ≡ a
answer_of_lem e = ap (λ (z : InsertAnswer × List ℕ). z.0) e

on_image_lem : {A : Type 0} (f : List ℕ → A) {z : InsertAnswer × List ℕ} {a : InsertAnswer} {img : List ℕ} {x : A} → z ≡ (a, img) → f img ≡ x → f z.1 ≡ x
on_image_lem f e g = ap (λ (z : InsertAnswer × List ℕ). f z.1) e ∙ g

plain : (take 20 (page_of listing 1)
    ≡ 0x01 ∷ 0x00 ∷ 0x07 ∷ 0x00 ∷ 0x14 ∷ 0x00 ∷ 0x01 ∷ 0x00 ∷ 0x2c ∷ 0x01 ∷ 0x06 ∷ 0x00 ∷ 0x02 ∷ 0x00 ∷ 0x09 ∷ 0x00 ∷ 0x08 ∷ 0x00 ∷ 0x41 ∷ 0x42 ∷ [])
    × (used listing 1 ≡ 20) × ((put (fresh 3) 0 most_content).0 ≡ answer 1 6 0 (pos 0)) × (put (fresh 3) 0 521 ≡ (insert_refused 6, fresh 3))
    × (insert_of (fresh 3) (replicate longest_path 0) 0 2 0 9 (replicate 521 0) ≡ (insert_refused 4, fresh 3))
unfolding computed
plain = (refl, refl, refl, refl, refl)

pub bench_sheet : BenchSheet
bench_sheet = record {
  listed = plain.0;
  listed_used = plain.1;
  seven_used = ap (λ (img : List ℕ). used img 1) seven_is ∙ sizes.0;
  last386 = ap (λ (img : List ℕ). (put img 7 386).0) seven_is ∙ ap (λ (z : InsertAnswer × List ℕ). z.0) last386_is;
  last386_used = ap (λ (img : List ℕ). used (put img 7 386).1 1) seven_is ∙ ap (λ (z : InsertAnswer × List ℕ). used z.1 1) last386_is ∙ sizes.1;
  splitting = splitting_is;
  last387_s = (aims 387 4081 2040 1584 aims387).0;
  last387p = (aims 387 4081 2040 1584 aims387).1;
  last387d = (aims 387 4081 2040 1584 aims387).2;
  last387 = ap (λ (img : List ℕ). (put img 7 387).0) seven_is ∙ last387_is;
  nearest = nearest_is;
  last389_s = (aims 389 4083 2042 1584 aims389).0;
  last389p = (aims 389 4083 2042 1584 aims389).1;
  last389d = (aims 389 4083 2042 1584 aims389).2;
  last389 = ap (λ (img : List ℕ). (put img 7 389).0) seven_is ∙ last389_is;
  last520_s = (aims most_content 4214 2107 1584 aims520).0;
  last520p = (aims most_content 4214 2107 1584 aims520).1;
  last520d = (aims most_content 4214 2107 1584 aims520).2;
  last520 = answer_of_lem eight_all;
  last520_used = (on_image_lem (λ i. used i 1) eight_all sizes.2, on_image_lem (λ i. used i 2) eight_all sizes.3, on_image_lem (λ i. used i 3) eight_all sizes.4);
  last520_pages = (
    on_image_lem (λ i. held i 1) eight_all pages.0,
    on_image_lem (λ i. held i 2) eight_all pages.1,
    on_image_lem (λ i. held i 3) eight_all
        pages.2,
  );
  full = ap (λ (img : List ℕ). put img 7 most_content) seven_in_three_lem ∙ full_is ∙ ap (λ (img : List ℕ). (insert_refused 12, img)) (sym seven_in_three_lem);
  more = (answer_of_lem nine_all, answer_of_lem ten_all, answer_of_lem eleven_all);
  more_used = (
    on_image_lem (λ i. used i 1) eleven_all sizes.5,
    on_image_lem (λ i. used i 2) eleven_all sizes.6,
    on_image_lem (λ i. used i 3) eleven_all sizes.7,
    on_image_lem (λ i. used i 4) eleven_all sizes.8,
  );
  more_pages = (
    on_image_lem (λ i. held i 1) eleven_all pages.3,
    on_image_lem (λ i. held i 2) eleven_all pages.4,
    on_image_lem (λ i. held i 3) eleven_all pages.5,
    on_image_lem (λ i. held i 4) eleven_all pages.6,
  );
  content520 = plain.2;
  content521 = plain.3;
  deep521 = plain.4;
  chain23 = ap (λ (img : List ℕ). find_of img (replicate longest_path 0)) chain_is ∙ found.0;
  chain24 = ap (λ (img : List ℕ). find_of img (replicate 96 0)) chain_is ∙ found.1;
}
