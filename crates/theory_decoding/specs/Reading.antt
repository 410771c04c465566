-- Reading decides `Reads`: what it finds is the one store whose image the bytes are.
use Rattle.std.specs.Prelude.{◌≡◌, refl, Bool, true, false, cond, ◌↔◌, List, [], ◌∷◌, ℕ, ◌*◌, length, eqb}
use Rattle.std.proofs.Common.{sym, ap, ap₂, subst, ◌∙◌, eqb-true, eq-eqb}
use Rattle.std.proofs.lemmas.Bool.{false≢true}
use Rattle.std.proofs.Math.Option.{Option, none, some, some-injective, none-ne-some}
use Rattle.model.specs.Limits.{page_size}
use Rattle.model.specs.Row.{Row, Config, image, valid}
use Rattle.model.specs.Reading.{Reads, length_ok, config_on, page_of, row_on, nodes_in, same_bytes, reading}
use Rattle.theory_rows.specs.Fits.{Valid}
use Rattle.theory_decoding.specs.Valid.{both, valid_says}
use Rattle.theory_decoding.specs.Length.{length_image, image_length_ok}
use Rattle.theory_decoding.specs.Decode.{config_image, root_image}

same_bytes_lem : (a b : List ℕ) → same_bytes a b ≡ true → a ≡ b
unfolding same_bytes
same_bytes_lem [] [] e = refl
same_bytes_lem [] (y ∷ b) e = absurd (false≢true e)
same_bytes_lem (x ∷ a) [] e = absurd (false≢true e)
same_bytes_lem (x ∷ a) (y ∷ b) e = let t = both (eqb x y) (same_bytes a b) e in ap₂ ◌∷◌ (eqb-true x y t.0) (same_bytes_lem a b t.1)

bytes_same : (a : List ℕ) → same_bytes a a ≡ true
unfolding same_bytes
bytes_same [] = refl
bytes_same (x ∷ a) = rw (eq-eqb x x refl) (bytes_same a)

-- What `reading` decodes, and what it makes of it and of its two tests.
abbrev decoded : (img : List ℕ) → Config × Row
decoded img = (config_on img, nodes_in (length img) img (row_on (page_of img 1)))

abbrev answer : (passes same : Bool) → Config × Row → Option (Config × Row)
answer a b found = cond a (cond b (some found) none) none

pub sound : (img : List ℕ) (st : Config) (root : Row) → reading img ≡ some (st, root) → Reads img st root
unfolding reading
sound img st root e = go (decoded img) _ _ refl refl e
  where
    go : (x : Config × Row) (a b : Bool) → valid x.0 x.1 ≡ a → same_bytes (image x.0 x.1) img ≡ b → answer a b x ≡ some (st, root)
        → Reads img st root
    go x true true v s e =
        subst (λ (y : Config × Row). Reads img y.0 y.1) (some-injective x (st, root) e)
        (record { passes = v; same = sym (same_bytes_lem (image x.0 x.1) img s) })
    go x true false v s e = absurd (none-ne-some (st, root) e)
    go x false b v s e = absurd (none-ne-some (st, root) e)

some_answer : (img : List ℕ) (st : Config) (root : Row) (x : Config × Row) → x ≡ (st, root)
    → valid st root ≡ true → same_bytes (image st root) img ≡ true
    → answer (valid x.0 x.1) (same_bytes (image x.0 x.1) img) x ≡ some (st, root)
some_answer img st root x e v s = rw (e, v, s)

pub reads_valid : (img : List ℕ) (st : Config) (root : Row) → Reads img st root → Valid st root
reads_valid img st root r = valid_says st root r.passes

pub complete : (img : List ℕ) (st : Config) (root : Row) → Reads img st root → reading img ≡ some (st, root)
unfolding reading
complete img st root r =
    let v = reads_valid img st root r in
    let same : decoded (image st root) ≡ (st, root) = λ i. (config_image st root v i, root_image st root v i) in
    ap reading r.same ∙ some_answer (image st root) st root (decoded (image st root)) same r.passes (bytes_same (image st root))

pub one_reading : (img : List ℕ) (st : Config) (root : Row) → (reading img ≡ some (st, root)) ↔ Reads img st root
one_reading img st root = (sound img st root, complete img st root)

pub unique : (img : List ℕ) (a b : Config × Row) → Reads img a.0 a.1 → Reads img b.0 b.1 → a ≡ b
unique img a b r s =
    let p = complete img a.0 a.1 r in
    let q = complete img b.0 b.1 s in
    cc

pub reads_length : (img : List ℕ) (st : Config) (root : Row) → Reads img st root → length img ≡ page_size * st.pages
reads_length img st root r = ap length r.same ∙ length_image st root (reads_valid img st root r)

pub reads_length_ok : (img : List ℕ) (st : Config) (root : Row) → Reads img st root → length_ok (length img) ≡ true
reads_length_ok img st root r = ap (λ (l : List ℕ). length_ok (length l)) r.same ∙ image_length_ok st root (reads_valid img st root r)
