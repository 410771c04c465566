-- `grow_split_point::enters`: the three tests.
use Rattle.std.specs.Prelude.{◌≡◌, Bool, ◌&&◌, List, ℕ, leb, ltb}
use Rattle.std.proofs.Common.{arith, sym, ◌∙◌, le-leb, refl, ap, false, true, true≢false, inl, inr}
use Rattle.std.proofs.lemmas.Bool.{lt-leb}
use Rattle.model.specs.Row.{Config, may_stand}
use Rattle.model.specs.Reading.{size_at, kind_at}
use Rattle.theory_rows.specs.Cut.{goes_into}
use Rattle.grow_split_point.specs.Kids.{Kids}
use Rattle.grow_split_point.specs.Search.{into_is}
use Rattle.grow_split_point.proofs.enters.Goals.{then-may_stand, else-may_stand}
use Rattle.grow_split_point.proofs.enters.Goals as goal

swap : (a b : Bool) → a && b ≡ b && a
swap true true = refl
swap true false = refl
swap false true = refl
swap false false = refl

-- what is asked, by what was read
reads : {l : List ℕ} {x end n k t : ℕ} {m : Bool} (w : Kids l x end) (st : Config) → n ≡ size_at l x → k ≡ kind_at l x → m ≡ may_stand k 1
    → st.tolerance ≡ t → goes_into st w.row ≡ m && (leb t n && ltb 6 n)
reads {l} {x} {n = n} {t = t} w st is k m e = rw (m, k, ← e) (into_is w st is ∙ ap (λ (b : Bool). may_stand (kind_at l x) 1 && b) (swap (ltb 6 n) (leb st.tolerance n)))

pub returns-then-tolerance-size : goal.returns-then-tolerance-size
returns-then-tolerance-size c = λ end w st e.
    let (m, n) = c.if-tolerance-size.true in
    sym (reads w st c.size_at-size.ensures.0 c.wide.ensures.0 c.may_stand.ensures e ∙ rw (m, le-leb c.args.tolerance c.size_at-size.result (omega (arith, n))))

pub returns-else-tolerance-size : goal.returns-else-tolerance-size
returns-else-tolerance-size c = λ end w st e.
    sym (
    reads w st c.size_at-size.ensures.0 c.wide.ensures.0 c.may_stand.ensures e
    ∙ elim c.if-may_stand.branch [
      | then-may_stand v ↦ elim c.if-tolerance-size.either [
        | inl q ↦ rw (v.t-6-is, q.0, lt-leb c.args.tolerance c.size_at-size.result q.1)
        | inr q ↦ absurd (true≢false (sym v.if-may_stand.true ∙ q))
      ]
      | else-may_stand v ↦ rw (v.t-6-is, v.if-may_stand.false)
    ]
    )
