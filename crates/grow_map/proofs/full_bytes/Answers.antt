-- `grow_map::full_bytes`: what starts with eight bytes of 255 has 255 at each of the eight.
use Rattle.std.specs.Prelude.{◌≡◌, List, ℕ, Bool, true, ◌+◌, ◌-◌, ◌<◌, ◌≤◌, length, get_or}
use Rattle.std.specs.List.{starts_with}
use Rattle.std.proofs.Common.{arith, sym, ap, ◌∙◌, eqb}
use Rattle.std.proofs.Math.ListN.{take, drop, replicate, get_or-append}
use Rattle.std.proofs.lemmas.Bool.Decides.{Decides-eqb}
use Rattle.std.proofs.lemmas.List.{get_or-drop, get_or-take, get_or-replicate}
use Rattle.std.proofs.lemmas.Slice.Eq.{starts_is}
use Rattle.grow_map.proofs.full_bytes.Goals as goal

eight : (m : List ℕ) (i n : ℕ) (r : Bool) → r ≡ starts_with eqb (take n (drop i m)) (replicate 8 255) → r ≡ true → 8 ≤ n
    → (k : ℕ) → k < 8 → get_or m (i + k) 0 ≡ 255
eight m i n r v e h k b =
    sym (get_or-drop i m k 0) ∙ sym (get_or-take n (drop i m) k 0 (omega arith))
    ∙ ap (λ (l : List ℕ). get_or l k 0) ((starts_is Decides-eqb (take n (drop i m)) (replicate 8 255) r v).0 e)
    ∙ get_or-append (replicate 8 255) _ 0 k b
    ∙ get_or-replicate 8 k 255 0 b

pub returns-then-starts_with : goal.returns-then-starts_with
returns-then-starts_with c =
    let e = c.if-starts_with.true in
    let n = c.starts_with.ensures.bound e in (
      omega (arith, n),
      eight c.args.map.now c.args.i (length c.args.map.now - c.args.i) _ c.starts_with.ensures.value e (omega (arith, n)),
    )
