-- Small facts about nodes and lists of pages.
use Rattle.std.specs.Prelude.{◌≡◌, refl, Bool, true, false, cond, List, [], ◌∷◌, map, ℕ, suc, ◌+◌, ◌≤◌, length, eqb}
use Rattle.std.proofs.Common.{ap, arith, eqb-true, eq-eqb}
use Rattle.model.specs.Tree.{Tree, end, branch, leaf, Node, below, further, nodes}
use Rattle.model.specs.Calls.Records.{times}
use Rattle.theory_places.specs.Member.{Mem, Each, each-++, each_map, each_of}

-- Only a literal has content.
abbrev Plain : Node → Type 0
Plain n = (n.content ≡ [] → ⊥) → n.kind ≡ 2

each_plain : (t : Tree) → Each Plain (nodes t)
each_plain end = tt
each_plain (branch h cs rest) = (
  λ e. absurd (e refl),
  each-++ Plain (map below (nodes cs)) (map (further 1) (nodes rest)) (each_map Plain Plain below (nodes cs) (λ n p. p) (each_plain cs))
      (each_map Plain Plain (further 1) (nodes rest) (λ n p. p) (each_plain rest)),
)
each_plain (leaf h c rest) = (λ e. refl, each_map Plain Plain (further 1) (nodes rest) (λ n p. p) (each_plain rest))

pub literal_content : (t : Tree) (n : Node) → Mem n (nodes t) → (n.content ≡ [] → ⊥) → n.kind ≡ 2
literal_content t n m = each_of Plain n (nodes t) (each_plain t) m

-- A list without one occurrence of a number.
abbrev less : ℕ → List ℕ → List ℕ
less q [] = []
less q (p ∷ ps) = cond (eqb q p) ps (p ∷ less q ps)

length_less : (q : ℕ) (ps : List ℕ) → 1 ≤ times q ps → suc (length (less q ps)) ≡ length ps
length_less q [] h = absurd (omega arith)
length_less q (p ∷ ps) h = go (eqb q p) h (length_less q ps)
  where
    go : (b : Bool) → 1 ≤ cond b 1 0 + times q ps → (1 ≤ times q ps → suc (length (less q ps)) ≡ length ps)
        → suc (length (cond b ps (p ∷ less q ps))) ≡ suc (length ps)
    go true h f = refl
    go false h f = ap suc (f (omega arith))

times_less : (q x : ℕ) (ps : List ℕ) → 1 ≤ times q ps → cond (eqb x q) 1 0 + times x (less q ps) ≡ times x ps
times_less q x [] h = absurd (omega arith)
times_less q x (p ∷ ps) h = go (eqb q p) refl h (times_less q x ps)
  where
    go : (b : Bool) → eqb q p ≡ b → 1 ≤ cond b 1 0 + times q ps → (1 ≤ times q ps → cond (eqb x q) 1 0 + times x (less q ps) ≡ times x ps)
        → cond (eqb x q) 1 0 + times x (cond b ps (p ∷ less q ps)) ≡ cond (eqb x p) 1 0 + times x ps
    go true e h f = ap (λ (y : ℕ). cond (eqb x y) 1 0 + times x ps) (eqb-true q p e)
    go false e h f = omega (arith, f (omega arith))

-- Lists with the same numbers are equally long.
pub same_length : (a b : List ℕ) → ((q : ℕ) → times q a ≡ times q b) → length a ≡ length b
same_length [] [] h = refl
same_length [] (q ∷ b) h =
    let same : eqb q q ≡ true = eq-eqb q q refl in
    absurd (omega (arith, rw same at (h q)))
same_length (q ∷ a) b h =
    let same : eqb q q ≡ true = eq-eqb q q refl in
    let some : 1 ≤ times q b = omega (arith, rw same at (h q)) in
    omega (arith, length_less q b some, same_length a (less q b) (λ x. omega (arith, h x, times_less q x b some)))
