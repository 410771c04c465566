-- `grow_run::is_full`: no page is wanted, or the dry run on a copy of the map tells.
use mathlib.Core.Path.{◌≡◌, refl, sym, subst, ◌∙◌}
use mathlib.Core.List.{List}
use Prim.Native.Nat.{ℕ}
use lib.ListN.{length, take, replicate}
use lib.Seq.{length-take-le}
use Rattle.model.specs.Limits.{mark_bytes}
use Rattle.base_numbers.specs.Over.{take_over}
use Rattle.grow_run.specs.Begin.{with_map}
use Rattle.grow_run.specs.Unsplit.{takes_none}
use borrow.Author.Rules.{rules}
use Rattle.grow_run.proofs.is_full.Goals as goal
use Rattle.grow_run.proofs.is_full.Goals.{After-copy_in}

pub returns-then-not-wants_page : goal.returns-then-not-wants_page
returns-then-not-wants_page c = record { full = λ w. takes_none w (sym (c.wants_page.ensures _ w) ∙ c.if-not-wants_page.true); image = refl; widths = refl }

copied : (c : After-copy_in) → let m = c.args.map.now in take (length m) c.copy_in.new.dst ≡ m
copied c =
    let m = c.args.map.now in
    subst (λ (l : List ℕ). take (length m) l ≡ m) (sym c.copy_in.ensures) (take_over (length m) m (replicate mark_bytes 0) refl)

pub slice_bounds-once-end : goal.slice_bounds-once-end
slice_bounds-once-end c = sym (length-take-le _ _ (search rules))

pub once-tried-requires : goal.once-tried-requires
once-tried-requires c = (with_map _ (copied (goal.at.once-tried-requires c).After-copy_in) c.requires.0, c.requires.1)

pub returns : goal.returns
returns c =
    let e = c.once-tried.ensures (with_map _ (copied (goal.at.returns c).After-copy_in) c.requires.0) in
    record {
      full = λ w. (c.once-tried.ensures (with_map _ (copied (goal.at.returns c).After-copy_in) w)).full;
      image = e.still refl;
      widths = e.rests refl;
    }
