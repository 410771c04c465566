-- Once a page was taken where none was free, growth does not forget it.
use Rattle.std.specs.Prelude.{◌≡◌, Bool, ℕ, leb, eqb}
use Rattle.std.proofs.Math.Bool.{true, false}
use Rattle.model.specs.Limits.{capacity}
use Rattle.model.specs.Row.{Row, record_size, Config}
use Rattle.model.specs.Growth.{Work, Out, on_row, free_from, group, separator, counted, freed, kept, close, rise}
use Rattle.model.specs.Spot.{fill, Chain, top, below}
use Rattle.theory_rows.specs.Laws.{cond_case}
use Rattle.theory_rows.specs.Cut.{split_carries, grouped_by}
use Rattle.theory_rows.specs.Pages.{or_left}

-- If no page was missing in the end, none was before.
abbrev Since : Work → Out → Type 0
Since w o = o.1.full ≡ false → w.full ≡ false

module _ (st : Config) where
  full_group : (near : ℕ) (g : Row) (w : Work) → Since w (group st near g w)
  full_group near g w = grouped_by _ (Since w) g w (λ _ z. z) (λ _ z. or_left w.full (eqb (free_from st st.pages w.used near) 0) z)

  full_separator : (near : ℕ) (r : Row) (w : Work) → Since w (separator st near r w)
  unfolding separator
  full_separator near r w = split_carries st (group st near) (λ v. v.full ≡ false → w.full ≡ false) (λ g v f z. f (full_group near g v z)) r w (λ z. z)

  full_kept : (q : ℕ) (o : Out) → Since o.1 (kept st q o)
  unfolding kept
  full_kept q o = cond_case (Since o.1) (leb (record_size o.0) capacity) (λ _ z. z) (λ _. full_separator q o.0 (counted st o.0 o.1))

  full_close : (q : ℕ) (b : Bool) (rest : Row) (o : Out) → Since o.1 (close st q b rest o)
  unfolding close
  full_close q true rest o = full_kept q o
  full_close q false rest o =
      cond_case (Since o.1) (leb (record_size o.0) capacity) (λ _ z. z) (λ _. full_separator q o.0 (freed st q (counted st o.0 o.1)))

  -- Growth from the last record of a chain upwards.
  pub full_rise : (c : Chain) (o : Out) → Since o.1 (rise st c o)
  unfolding rise
  full_rise top o z = full_kept 1 o z
  full_rise (below c s q b rest) o z = full_close q b rest o (full_rise c (on_row (fill s) (close st q b rest o)) z)
