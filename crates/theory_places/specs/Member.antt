-- A node in a list of nodes, and a statement about each node of a list.
use mathlib.Core.List.{List, [], ◌∷◌, ◌++◌, map, Memᴰ}
use Rattle.std.specs.Prelude.{◌≡◌}
use Rattle.std.proofs.Common.{sym, ap, subst}
use Rattle.model.specs.Tree.{Node}

-- The library's membership: `List.Memᴰ·head` for the first, `List.Memᴰ·tail` for one further on.
abbrev pub Mem : Node → List Node → Type 0
Mem n ns = Memᴰ n ns

abbrev pub Each : (Node → Type 0) → List Node → Type 0
Each P [] = Unit {0}
Each P (n ∷ ns) = P n × Each P ns

pub each-++ : (P : Node → Type 0) (a b : List Node) → Each P a → Each P b → Each P (a ++ b)
each-++ P [] b f g = g
each-++ P (n ∷ a) b f g = (f.0, each-++ P a b f.1 g)

pub each_map : (P Q : Node → Type 0) (f : Node → Node) (ns : List Node) → ((n : Node) → P n → Q (f n)) → Each P ns → Each Q (map f ns)
each_map P Q f [] h e = tt
each_map P Q f (n ∷ ns) h e = (h n e.0, each_map P Q f ns h e.1)

pub each_of : (P : Node → Type 0) (n : Node) (ns : List Node) → Each P ns → Mem n ns → P n
each_of P n [] e i = elim i [ ]
each_of P n (m ∷ ns) e (Memᴰ.head q) = subst P (sym q) e.0
each_of P n (m ∷ ns) e (Memᴰ.tail i) = each_of P n ns e.1 i

pub mem_split : {A : Type 0} (n : A) (ns : List A) → Memᴰ n ns → (before after : List A) × (ns ≡ before ++ n ∷ after)
mem_split n [] i = elim i [ ]
mem_split n (m ∷ ns) (Memᴰ.head e) = ([], ns, ap (λ m. m ∷ ns) (sym e))
mem_split n (m ∷ ns) (Memᴰ.tail i) =
    let s = mem_split n ns i in
    (m ∷ s.0, s.1, ap (◌∷◌ m) s.2)
