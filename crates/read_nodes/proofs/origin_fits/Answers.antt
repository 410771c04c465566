use Rattle.read_nodes.proofs.origin_fits.Goals as goal

pub returns : goal.returns
returns c = rw (← c.origin_at.ensures.0)
