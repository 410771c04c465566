-- Page 0: the settings' numbers, in the type that the ranges are tested on, and its trailer.
use Rattle.std.specs.Prelude.{Bool, ◌&&◌, List, ℕ, ◌+◌, eqb, get_or, take, drop}
use Rattle.model.specs.Limits.{capacity, settings_size}
use Rattle.model.specs.Reading.{two_at, used_at}
use Rattle.model.specs.BeforeWalk.{all_zero}
use Rattle.model.specs.declared.Settings.{Settings}

abbrev pub settings_on : (page : List ℕ) → Settings
settings_on s = record { pages = two_at s 0; target = get_or s 2 0; tolerance = two_at s 4; form = two_at s 6 }

abbrev pub settings_trailer : (page : List ℕ) → Bool
settings_trailer s = eqb (two_at s capacity) 2 && eqb (used_at s 0) settings_size && all_zero (take 12 (drop (capacity + 4) s))
