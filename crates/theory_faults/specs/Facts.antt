-- Relations between the outcomes of two tests by one Bool, beside `both` of theory_growth.
use Rattle.std.specs.Prelude.{◌≡◌, refl, Bool, true, false, cond, not, ◌&&◌}

module _ {A B : Type 0} (R : A → B → Type 0) where
  -- of which one is made the other way round
  pub other : (c : Bool) {x y : A} {d e : B} → (c ≡ true → R x d) → (c ≡ false → R y e) → R (cond (not c) y x) (cond c d e)
  other true f g = f refl
  other false f g = g refl

  -- with a second test after it
  pub after : (c b : Bool) {x y : A} (d : B) {e : B} → (c ≡ true → R x (cond b d e)) → R y e → R (cond (not c) y x) (cond (c && b) d e)
  after true b d f g = f refl
  after false b d f g = g
