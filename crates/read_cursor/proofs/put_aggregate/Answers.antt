use Rattle.std.proofs.Common.{refl, ap, ◌∙◌, ◌-◌}
use Rattle.std.proofs.lemmas.List.Edits.{sets}
use Rattle.model.specs.Reading.{head_at}
use Rattle.read_cursor.specs.Meets.{entry_agg}
use Rattle.read_cursor.proofs.put_aggregate.Goals as goal

pub returns : goal.returns
returns c =
    let a = c.args in record {
      number = refl;
      out = λ size.
          c.put.ensures
          ∙ ap (sets a.out.now (a.here - 1))
          (entry_agg a.c.level a.c.i _ (head_at a.image.now a.c.i) size _ _ c.requires.3 c.origin_at.ensures.0 c.label_at.ensures.0);
    }
