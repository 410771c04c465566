-- `store::remove_sized`: an image that does not pass gives the check's number; else the check's table and marks are handed on.
use Rattle.std.proofs.Common.{sym, ap, refl, arith, List, ℕ, ◌≤◌, length, take}
use Rattle.std.proofs.lemmas.Result.{err_from_is_err_and}
use Rattle.theory_calls.specs.Refusals.{some_number}
use Rattle.theory_decoding.specs.Length.{length_says}
use Rattle.grow_map.specs.Mapped.{Reached, reached_part, shut_mapped}
use Rattle.store.specs.Refused.{remove_refused}
use Rattle.store.proofs.remove_sized.Goals as goal
use Rattle.store.proofs.remove_sized.Goals.{After-map_bytes-k}

pub returns-in_err-check_tables : goal.returns-in_err-check_tables
returns-in_err-check_tables g c =
    let p = err_from_is_err_and c.from_residual.result c.from_residual.ensures.1 in
    let e = remove_refused c.args.image.now _ c.in_err-check_tables.ensures.0 (some_number _) c.args.path.now in
    rw (p.1, p.2) (record {
      number = ap (λ (z : ℕ × List ℕ). z.0) e;
      image = ap (λ (z : ℕ × List ℕ). z.1) e;
    })

-- the map's bytes are some of the marks
fits : (g : _) (c : After-map_bytes-k g) → c.map_bytes-k.result ≤ length c.check_tables.new.marks
fits g c = let e = c.in_ok-check_tables.ensures.1 refl in
    omega (arith, c.map_bytes-k.ensures, e.3, (length_says _ e.0).many)

pub slice_bounds-marks-end : goal.slice_bounds-marks-end
slice_bounds-marks-end g c = fits g (goal.at.slice_bounds-marks-end g c).After-map_bytes-k

-- and those of the pages in use
reached : (g : _) (c : After-map_bytes-k g) → Reached c.args.image.now (take c.map_bytes-k.result c.check_tables.new.marks)
reached g c = let e = c.in_ok-check_tables.ensures.1 refl in
    reached_part _ _ _ c.map_bytes-k.ensures e.3 e.0 e.2

pub shut-requires : goal.shut-requires
shut-requires g c = let r = reached g (goal.at.shut-requires g c).After-map_bytes-k in (r.some, r.small, omega (arith, r.long, r.small))

pub remove_of-requires : goal.remove_of-requires
remove_of-requires g c =
    let e = c.in_ok-check_tables.ensures in
    (sym e.0, (e.1 refl).1, shut_mapped _ _ _ (reached g (goal.at.remove_of-requires g c).After-map_bytes-k) c.shut.ensures)
