-- `read_entries::walk_of`: the record on page 1, with those below it, is the whole tree.
use Rattle.std.specs.Prelude.{List, ℕ, ◌-◌, ◌/◌}
use Rattle.std.proofs.Common.{ap, ◌∙◌}
use Rattle.model.specs.Answers.{WalkAnswer}
use Rattle.theory_decoding.specs.Reading.{reads_length_ok}
use Rattle.read_next.specs.Scan.{store_of}
use Rattle.read_entries.specs.Answer.{root_recorded, root_met, walk_stray, walk_told, walk_on}
use Rattle.read_entries.proofs.walk_of.Goals as goal

pub returns-in_default : goal.returns-in_default
returns-in_default c =
    let q = walk_stray c.args.image.now c.args.x c.args.out.now c.requires.0 c.in_default.ensures in
    record { answer = ap (λ (o : WalkAnswer × List ℕ). o.0) q; out = ap (λ (o : WalkAnswer × List ℕ). o.1) q }

pub walk-r-requires : goal.walk-r-requires
walk-r-requires c =
    let s = store_of c.args.image.now c.requires.0 in
    ((root_recorded c.args.image.now s.settings s.root s.reads).0, c.requires.1, reads_length_ok c.args.image.now s.settings s.root s.reads)

pub overflow_sub-result : goal.overflow_sub-result
overflow_sub-result c =
    let s = store_of c.args.image.now c.requires.0 in
    let w = (root_recorded c.args.image.now s.settings s.root s.reads).0 in
    let met = root_met c.args.image.now s.settings s.root s.reads _ _ _ (c.walk-r.ensures w) in
    walk_on c.args.image.now c.args.x c.args.out.now _ c.in-Some.ensures s.settings s.root s.reads _ _ _ met

pub returns : goal.returns
returns c =
    let s = store_of c.args.image.now c.requires.0 in
    let w = (root_recorded c.args.image.now s.settings s.root s.reads).0 in
    let met = root_met c.args.image.now s.settings s.root s.reads _ _ _ (c.walk-r.ensures w) in
    let q = walk_told c.args.image.now c.args.x c.args.out.now _ c.in-Some.ensures s.settings s.root s.reads _ _ _ met in
    record {
      answer = c.follows.ensures ((c.walk-r.result.at - 1) / 9) ∙ ap (λ (o : WalkAnswer × List ℕ). o.0) q;
      out = ap (λ (o : WalkAnswer × List ℕ). o.1) q;
    }
