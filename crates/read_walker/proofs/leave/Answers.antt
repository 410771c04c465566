use mathlib.Core.Path.{◌≡◌, refl, sym, ap, subst, ◌∙◌}
use Prim.Native.Nat.{ℕ, ◌+◌, ◌*◌, ◌/◌, ◌≤◌, ◌<◌}
use lib.ListN.{length, get_or}
use Rattle.model.specs.Limits.{most_pages, page_size}
use Rattle.read_walker.specs.Turns.{way_back, out_of, out_own, out_outer}
use Rattle.read_walker.proofs.leave.Goals as goal
use Rattle.read_walker.proofs.leave.Goals.{After-back_at}

-- where the list goes on
way : (c : After-back_at) → let a = c.args in
    let page = a.w.at / page_size in page_size * c.back_at.result + get_or a.back.now page 0 ≡ way_back a.image.now a.back.now page
way c = let a = c.args in
    ap (λ (n : ℕ). page_size * n + get_or a.back.now (a.w.at / page_size) 0) c.back_at.ensures.0

pub returns-then-depth-eq0 : goal.returns-then-depth-eq0
returns-then-depth-eq0 c =
    let a = c.args in
    record {
      walker = out_own a.image.now a.w a.last _ _ c.kinds_in-r.ensures c.if-depth-eq0.true ∙ ap (out_of a.image.now a.w a.last) (way (goal.at.returns-then-depth-eq0 c).After-back_at);
      widths = refl;
    }

pub record_end-requires : goal.record_end-requires
record_end-requires c =
    subst (λ (n : ℕ). (n / page_size < most_pages) × (page_size * (n / page_size) + page_size ≤ length c.args.image.now)) (sym (way (goal.at.record_end-requires c).After-back_at))
    (c.requires.7 c.if-depth-eq0.false)

pub returns : goal.returns
returns c =
    let a = c.args in
    record {
      walker = out_outer a.image.now a.w a.last _ _ c.record_end.ensures c.if-depth-eq0.false ∙ ap (out_of a.image.now a.w a.last) (way (goal.at.returns c).After-back_at);
      widths = refl;
    }
