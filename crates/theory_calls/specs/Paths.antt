-- Paths as bytes: the entries of a path spell it again, and a path that names a node is not long.
use Rattle.std.specs.Prelude.{◌≡◌, refl, true, false, List, [], ◌∷◌, ◌++◌, ℕ, zero, suc, ◌+◌, ◌*◌, ◌/◌, ◌%◌, ◌≤◌, ◌<◌, max, length}
use Rattle.std.proofs.Common.{ap, ap₂, subst, ◌∙◌, true≢false, arith, ltb-true}
use Rattle.std.proofs.Math.Option.{Option, none, some, map, some-injective}
use Rattle.model.specs.Row.{every, is_byte}
use Rattle.model.specs.Tree.{Tree, end, branch, leaf, Node, below, further, node_at}
use Rattle.model.specs.Common.{four, path_bytes, entries, named_if, or_empty, path_of, is_none}
use Rattle.theory_rows.specs.Keeps.{levels}
use Rattle.theory_decoding.specs.Valid.{both}

never : {A B : Type 0} {x : A} → none ≡ some x → B
never {x = x} e = let z : ◌≡◌ {A = ℕ} 0 1 = cc in absurd (omega arith)

-- What a path spells, and how long it is.
pub record Spelled (path p : List ℕ) : Type 0 where
  pub back : path_bytes p ≡ path
  pub long : 4 * length p ≡ length path

low : (a r n : ℕ) → a < 256 → n ≡ a + 256 * r → n % 256 ≡ a
low a r n h e = omega arith

four_back : (a b c d : ℕ) → a < 256 → b < 256 → c < 256 → d < 256 → four (a + 256 * b + 65536 * c + 16777216 * d) ≡ a ∷ b ∷ c ∷ d ∷ []
four_back a b c d ha hb hc hd =
    let n = a + 256 * b + 65536 * c + 16777216 * d in
    let q₁ : n / 256 ≡ b + 256 * (c + 256 * d) = omega arith in
    let q₂ : n / 65536 ≡ c + 256 * d = omega arith in
    let q₃ : n / 16777216 ≡ d = omega arith in
    let e₀ : n % 256 ≡ a = low a (b + 256 * (c + 256 * d)) n ha (omega arith) in
    let e₁ : n / 256 % 256 ≡ b = low b (c + 256 * d) (n / 256) hb q₁ in
    let e₂ : n / 65536 % 256 ≡ c = low c d (n / 65536) hc q₂ in
    let e₃ : n / 16777216 % 256 ≡ d = low d 0 (n / 16777216) hd (omega arith) in
    λ i. e₀ i ∷ e₁ i ∷ e₂ i ∷ e₃ i ∷ []

pub spelled : (path p : List ℕ) → every is_byte path ≡ true → entries path ≡ some p → Spelled path p
spelled [] p b e = subst (Spelled []) (let z : [] ≡ p = cc in z) (record { back = refl; long = refl })
spelled (a ∷ []) p h e = never e
spelled (a ∷ b ∷ []) p h e = never e
spelled (a ∷ b ∷ c ∷ []) p h e = never e
spelled (a ∷ b ∷ c ∷ d ∷ s) p h e =
    let h₀ = both (is_byte a) _ h in
    let h₁ = both (is_byte b) _ h₀.1 in
    let h₂ = both (is_byte c) _ h₁.1 in
    let h₃ = both (is_byte d) _ h₂.1 in
    go (entries s) e (spelled s) h₃.1 (four_back a b c d (ltb-true _ _ h₀.0) (ltb-true _ _ h₁.0) (ltb-true _ _ h₂.0) (ltb-true _ _ h₃.0)) refl
  where
    n : ℕ
    n = a + 256 * b + 65536 * c + 16777216 * d

    go : (r : Option (List ℕ)) → map (λ ns. n ∷ ns) r ≡ some p → ((q : List ℕ) → every is_byte s ≡ true → entries s ≡ some q → Spelled s q)
        → every is_byte s ≡ true → four n ≡ a ∷ b ∷ c ∷ d ∷ [] → entries s ≡ r → Spelled (a ∷ b ∷ c ∷ d ∷ s) p
    go none e f h g q = never e
    go (some ns) e f h g q =
        let i = f ns h q in
        let z : n ∷ ns ≡ p = cc in
        subst (Spelled (a ∷ b ∷ c ∷ d ∷ s)) z (record { back = ap₂ (λ (x y : List ℕ). x ++ y) g i.back; long = omega (arith, i.long) })

-- Four bytes an entry.
pub path_length : (path : List ℕ) → 4 * length (path_of path) ≤ length path
path_length [] = omega arith
path_length (a ∷ []) = omega arith
path_length (a ∷ b ∷ []) = omega arith
path_length (a ∷ b ∷ c ∷ []) = omega arith
path_length (a ∷ b ∷ c ∷ d ∷ s) = go (entries s) (path_length s)
  where
    go : (r : Option (List ℕ)) → 4 * length (or_empty r) ≤ length s
        → 4 * length (or_empty (map (λ ns. (a + 256 * b + 65536 * c + 16777216 * d) ∷ ns) r)) ≤ suc (suc (suc (suc (length s))))
    go none h = omega arith
    go (some ns) h = omega arith

-- A path that names a node has fewer entries than the tree has levels.
pub path_levels : (i : ℕ) (path : List ℕ) (t : Tree) (n : Node) → node_at i path t ≡ some n → suc (length path) ≤ levels t
path_levels i path end n e = never e
path_levels zero [] (branch h cs rest) n e = omega arith
path_levels zero (j ∷ path) (branch h cs rest) n e = go (node_at j path cs) e (path_levels j path cs)
  where
    go : (r : Option Node) → map below r ≡ some n → ((m : Node) → r ≡ some m → suc (length path) ≤ levels cs)
        → suc (suc (length path)) ≤ max (1 + levels cs) (levels rest)
    go none e f = never e
    go (some m) e f = omega (arith, f m refl)
path_levels (suc i) path (branch h cs rest) n e = go (node_at i path rest) e (path_levels i path rest)
  where
    go : (r : Option Node) → map (further 1) r ≡ some n → ((m : Node) → r ≡ some m → suc (length path) ≤ levels rest)
        → suc (length path) ≤ max (1 + levels cs) (levels rest)
    go none e f = never e
    go (some m) e f = omega (arith, f m refl)
path_levels zero [] (leaf h c rest) n e = omega arith
path_levels zero (j ∷ path) (leaf h c rest) n e = never e
path_levels (suc i) path (leaf h c rest) n e = go (node_at i path rest) e (path_levels i path rest)
  where
    go : (r : Option Node) → map (further 1) r ≡ some n → ((m : Node) → r ≡ some m → suc (length path) ≤ levels rest)
        → suc (length path) ≤ max 1 (levels rest)
    go none e f = never e
    go (some m) e f = omega (arith, f m refl)

-- ── one entry more ──

uncons : (n : ℕ) (o : Option (List ℕ)) (p : List ℕ) → map (λ (ns : List ℕ). n ∷ ns) o ≡ some p → (q : List ℕ) × (o ≡ some q) × (n ∷ q ≡ p)
uncons n none p e = never e
uncons n (some q) p e = (q, refl, some-injective (n ∷ q) p e)

-- Four bytes behind a path are its last entry.
pub entries_last : (path p : List ℕ) (w x y z : ℕ) → entries path ≡ some p
    → entries (path ++ w ∷ x ∷ y ∷ z ∷ []) ≡ some (p ++ (w + 256 * x + 65536 * y + 16777216 * z) ∷ [])
entries_last [] p w x y z e = λ i. some (some-injective [] p e i ++ (w + 256 * x + 65536 * y + 16777216 * z) ∷ [])
entries_last (a ∷ []) p w x y z e = never e
entries_last (a ∷ b ∷ []) p w x y z e = never e
entries_last (a ∷ b ∷ c ∷ []) p w x y z e = never e
entries_last (a ∷ b ∷ c ∷ d ∷ s) p w x y z e =
    let n = a + 256 * b + 65536 * c + 16777216 * d in
    let (q, g, f) = uncons n (entries s) p e in
    ap (map (λ (ns : List ℕ). n ∷ ns)) (entries_last s q w x y z g)
    ∙ ap (λ (r : List ℕ). some (r ++ (w + 256 * x + 65536 * y + 16777216 * z) ∷ [])) f

pub entries_more : (path p : List ℕ) (k : ℕ) → k < 4294967296 → entries path ≡ some p → entries (path ++ four k) ≡ some (p ++ k ∷ [])
entries_more path p k h e =
    let a : k / 256 ≡ k / 256 % 256 + 256 * (k / 65536) = omega arith in
    let b : k / 65536 ≡ k / 65536 % 256 + 256 * (k / 16777216) = omega arith in
    let c : k / 16777216 % 256 ≡ k / 16777216 = omega arith in
    let z : k % 256 + 256 * (k / 256 % 256) + 65536 * (k / 65536 % 256) + 16777216 * (k / 16777216 % 256) ≡ k = omega arith in
    entries_last path p (k % 256) (k / 256 % 256) (k / 65536 % 256) (k / 16777216 % 256) e ∙ ap (λ (n : ℕ). some (p ++ n ∷ [])) z

-- A path that names a node is whole entries.
pub whole_path : (t : Tree) (o : Option (List ℕ)) → is_none (named_if t o) ≡ false → o ≡ some (or_empty o)
whole_path t none e = absurd (true≢false e)
whole_path t (some p) e = refl
