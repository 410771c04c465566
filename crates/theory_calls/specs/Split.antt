-- The claim of a split, for every target and tolerance together.
use Rattle.std.specs.Prelude.{Bool, true, false, ◌≤◌}
use Rattle.std.proofs.Common.{arith}
use Rattle.model.specs.Row.{Row, nil, agg, lit, rec, lone, records}
use Rattle.model.specs.Growth.{separator}
use Rattle.model.specs.Claims.{root_row, Split}
use Rattle.theory_rows.specs.Fits.{Fits}
use Rattle.theory_rows.specs.Bound.{depth, split_good, split_whole}
use Rattle.theory_rows.specs.Keeps.{depth_height}
use Rattle.theory_rows.specs.Image.{fits_records}
use Rattle.theory_decoding.specs.Valid.{ranges_say, fits_says}
use Rattle.theory_calls.specs.Matches.{largest_fits}

root_fits_lem : (b : Bool) (r : Row) → Fits r → Fits (root_row b r)
root_fits_lem false r f = f
root_fits_lem true nil f = tt
root_fits_lem true (agg h cs rest) f = f.1
root_fits_lem true (lit h c rest) f = tt
root_fits_lem true (rec p s r rest) f = tt

pub split : Split
split st near r w ranges fit over most high =
    let f = fits_says r fit in
    let children = root_row (lone r) r in
    let deep : depth children ≤ 23 = omega (arith, depth_height children (root_fits_lem (lone r) r f)) in
    let k = ranges_say st ranges in
    let good = split_good st k near r w f over most deep in
    let sep = (separator st near r w).0 in
    record {
      separated = split_whole st k near r w f over most deep;
      records = largest_fits (records near sep) (fits_records near sep good.fits);
      lean = good.leans;
    }
