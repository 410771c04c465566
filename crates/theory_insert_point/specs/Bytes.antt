-- The places of a chain in an image.
use Rattle.std.specs.Prelude.{◌≡◌, Bool, List, ℕ, ◌+◌, ◌*◌, length}
use Rattle.std.proofs.Common.{sym, subst, arith}
use Rattle.std.proofs.Math.Option.{some}
use Rattle.model.specs.Limits.{page_size}
use Rattle.model.specs.Row.{Row, nil, agg, lit, rec, store, ◌⊹◌, size, base, Held, record_page, Config, record_on}
use Rattle.model.specs.Reading.{Reads, page_of}
use Rattle.theory_rows.specs.Image.{Stored}
use Rattle.theory_decoding.specs.Decode.{stored_image}
use Rattle.theory_decoding.specs.Reading.{reads_valid}
use Rattle.theory_layout.specs.Here.{Here, OnPage, view, root_page_lem}
use Rattle.model.specs.Spot.{Position, here, inside, fill, Chain, top, below, last_page, Spot, spot_of, whole, last_holder}
use Rattle.theory_growth.specs.Chain.{before, last_settled}
use Rattle.theory_growth.specs.Gap.{spot_whole}

-- ── the records of a chain ──

-- Where the record above the last of `below c s q b rest` has the proxy, if the last record holds `row`.
abbrev pub proxy_at : (c : Chain) → (s : Position) → (q : ℕ) → (b : Bool) → (rest row : Row) → ℕ
proxy_at c s q b rest row = page_size * last_page c + base (fill s (rec q b row rest)) + before s

-- The last record, as its page holds it.
abbrev pub last_held : Chain → (row : Row) → Held
last_held c row = record_on (last_page c) (last_settled c) (last_holder c) row

-- ── in an image ──

module _ (img : List ℕ) where
  pub here-⊹ : (page pos : ℕ) (a b : Row) → Here img page pos (a ⊹ b) → Here img page (pos + size a) b
  here-⊹ page pos nil b v = let z : pos ≡ pos + 0 = omega arith in subst (λ (n : ℕ). Here img page n b) z v
  here-⊹ page pos (agg h cs rest) b v =
      let z : pos + (6 + size cs) + size rest ≡ pos + (6 + size cs + size rest) = omega arith in
      subst (λ (n : ℕ). Here img page n b) z (here-⊹ page (pos + (6 + size cs)) rest b (view v (omega arith)).after)
  here-⊹ page pos (lit h c rest) b v =
      let z : pos + (6 + length c) + size rest ≡ pos + (6 + length c + size rest) = omega arith in
      subst (λ (n : ℕ). Here img page n b) z (here-⊹ page (pos + (6 + length c)) rest b (view v (omega arith)).after)
  here-⊹ page pos (rec p s r rest) b v =
      let z : pos + 8 + size rest ≡ pos + (8 + size rest) = omega arith in
      subst (λ (n : ℕ). Here img page n b) z (here-⊹ page (pos + 8) rest b (view v (omega arith)).after)

  -- What fills a position stands there,
  pub here_fill : (page pos : ℕ) (s : Position) (x : Row) → Here img page pos (fill s x) → Here img page (pos + before s) x
  here_fill page pos (here left) x v = here-⊹ page pos left x v
  here_fill page pos (inside left h rest s) x v =
      let g = view (here-⊹ page pos left (agg h (fill s x) rest) v) (omega arith) in
      let z : pos + size left + 6 + before s ≡ pos + (size left + 6 + before s) = omega arith in
      subst (λ (n : ℕ). Here img page n x) z (here_fill page (pos + size left + 6) s x g.children)

  proxy_in : (c : Chain) (s : Position) (q : ℕ) (b : Bool) (rest row : Row) → OnPage img (last_page c) (last_holder c) (fill s (rec q b row rest))
      → Here img (last_page c) (proxy_at c s q b rest row) (rec q b row rest)
  proxy_in c s q b rest row v = here_fill (last_page c) (page_size * last_page c + base (fill s (rec q b row rest))) s (rec q b row rest) v.here

  page_in_lem : (c : Chain) (row : Row) → OnPage img 1 0 (whole c row) → OnPage img (last_page c) (last_holder c) row
  page_in_lem top row v = v
  page_in_lem (below c s q b rest) row v =
      (view (proxy_in c s q b rest row (page_in_lem c (fill s (rec q b row rest)) v)) (omega arith)).under

  module _ (st : Config) (root : Row) (r : Reads img st root) where
    -- The last record of a chain of the root record stands on its page,
    pub chain_page : (c : Chain) (row : Row) → whole c row ≡ root → OnPage img (last_page c) (last_holder c) row
    chain_page c row e = page_in_lem c row (subst (OnPage img 1 0) (sym e) (root_page_lem img st root r))

    -- and the proxy to it in the record above.
    pub chain_here : (c : Chain) (s : Position) (q : ℕ) (b : Bool) (rest row : Row) → whole (below c s q b rest) row ≡ root
        → Here img (last_page c) (proxy_at c s q b rest row) (rec q b row rest)
    chain_here c s q b rest row e = proxy_in c s q b rest row (chain_page c (fill s (rec q b row rest)) e)

    -- The bytes of its page.
    pub chain_bytes : (c : Chain) (row : Row) → whole c row ≡ root → page_of img (last_page c) ≡ record_page (last_held c row)
    chain_bytes top row e =
        let m : Stored (page_of img) 0 (store root) =
        subst (λ (i : List ℕ). Stored (page_of i) 0 (store root)) (sym r.same) (stored_image st root (reads_valid img st root r)) in
        rw e m.0
    chain_bytes (below c s q b rest) row e = (chain_here c s q b rest row e).stored.0

    -- What fills a position in it stands there,
    pub chain_fill : (c : Chain) (s : Position) (row : Row) → whole c (fill s row) ≡ root
        → Here img (last_page c) (page_size * last_page c + base (fill s row) + before s) row
    chain_fill c s row e = here_fill (last_page c) (page_size * last_page c + base (fill s row)) s row (chain_page c (fill s row) e).here

    -- and so, where the new node goes, the row that follows it now.
    pub spot_here : (path : List ℕ) (k : ℕ) (t : Spot) → spot_of root path k ≡ some t
        → Here img (last_page t.chain) (page_size * last_page t.chain + base (fill t.position t.rest) + before t.position) t.rest
    spot_here path k t e = chain_fill t.chain t.position t.rest (spot_whole root path k t e)
