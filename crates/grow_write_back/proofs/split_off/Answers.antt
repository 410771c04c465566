-- `grow_write_back::split_off`: the page is left, then the record is split.
-- In each answer w is the record, d what `leave` did, p what the split point is.
use mathlib.Core.Path.{◌∙◌}
use mir.Syntax.{w32}
use mir.Facts.{to_z-of_z}
use Rattle.base_layout.specs.Growing.{target_of}
use Rattle.grow_split_point.specs.Lean.{lean_signed}
use Rattle.grow_write_back.specs.Off.{off_sizes, off_env, off_large, off_lean, off_done}
use Rattle.grow_write_back.proofs.split_off.Goals as goal

pub split_point-p-requires : goal.split_point-p-requires
split_point-p-requires c =
    off_sizes c.requires.1.1 c.requires.0

pub separator-s-requires : goal.separator-s-requires
separator-s-requires c =
    let w = c.requires.1.1 in
    let d = c.leave.ensures w.stays w.bit in
    let p = c.split_point-p.ensures w.st (target_of w.over.setup) in
    (off_env w c.requires.0 d, (c.requires.1.0, off_large w c.requires.0 d p))

pub lean-requires : goal.lean-requires
lean-requires c =
    let w = c.requires.1.1 in
    let d = c.leave.ensures w.stays w.bit in
    let p = c.split_point-p.ensures w.st (target_of w.over.setup) in
    off_lean w c.requires.0 d p (c.separator-s.ensures (off_large w c.requires.0 d p)).1

pub returns : goal.returns
returns c w =
    let d = c.leave.ensures w.stays w.bit in
    let p = c.split_point-p.ensures w.st (target_of w.over.setup) in
    let v = c.separator-s.ensures (off_large w c.requires.0 d p) in
    let z = c.lean.ensures in
    off_done w c.requires.0 d p v.1 v.0 (to_z-of_z {w = w32} (lean_signed c.lean.result z.1) ∙ z.0)
