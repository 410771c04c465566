-- What the calls need of page 0, as one value.
use Rattle.std.specs.Prelude.{◌≡◌, List, ℕ, get_or}
use Rattle.std.proofs.Common.{ap, ◌∙◌}
use Rattle.model.specs.Row.{Row, Config}
use Rattle.model.specs.Reading.{Reads, two_at, config_on}
use Rattle.theory_decoding.specs.Decode.{config_image}
use Rattle.theory_decoding.specs.Reading.{reads_valid}
use Rattle.base_layout.specs.declared.Setup.{Setup}

abbrev pub setup_on : (img : List ℕ) → Setup
setup_on img = record { pages = two_at img 0; target = get_or img 2 0; tolerance = two_at img 4; matrix = 16 }

-- It is what these settings say.
abbrev pub setup_of : Config → Setup
setup_of st = record { pages = st.pages; target = st.target; tolerance = st.tolerance; matrix = 16 }

pub reads_setup : (img : List ℕ) (st : Config) (root : Row) → Reads img st root → setup_on img ≡ setup_of st
reads_setup img st root r =
    let e : config_on img ≡ st = ap config_on r.same ∙ config_image st root (reads_valid img st root r) in
    ap setup_of e
