-- What an insert's functions hand on.
use Rattle.std.specs.Prelude.{◌≡◌, ℕ}
use Rattle.std.proofs.Common.{ap}
use Rattle.base_layout.specs.declared.Setup.{Setup}
use Rattle.base_layout.specs.declared.Growing.{Growing}

-- Room for a record that is to be split, and for a separator.
abbrev pub buffer_size : ℕ
buffer_size = 4608

abbrev pub separator_size : ℕ
separator_size = 512

-- The same, near another page.
abbrev pub near_to : Growing → ℕ → Growing
near_to g q = record { setup = g.setup; near = q; dry = g.dry }

-- Of what page 0 and the settings say alike.
module _ {a s : Setup} (e : a ≡ s) where
  pub pages_of_lem : a.pages ≡ s.pages
  pages_of_lem = ap (λ (x : Setup). x.pages) e

  pub target_of : a.target ≡ s.target
  target_of = ap (λ (x : Setup). x.target) e

  pub tolerance_of : a.tolerance ≡ s.tolerance
  tolerance_of = ap (λ (x : Setup). x.tolerance) e

  pub matrix_of : a.matrix ≡ s.matrix
  matrix_of = ap (λ (x : Setup). x.matrix) e
