-- `listing_lines::content`: empty content is a dash.
use Rattle.std.proofs.Common.{rules, sym}
use Rattle.listing_lines.specs.Wrote.{same_room, same_text}
use Rattle.listing_lines.specs.Digits.{content_empty, content_hex}
use Rattle.listing_lines.proofs.content.Goals as goal

pub put-requires : goal.put-requires
put-requires c = same_room (content_empty c.args.bytes.now (search rules)) c.requires

pub returns-then-is_empty : goal.returns-then-is_empty
returns-then-is_empty c = same_text (sym (content_empty c.args.bytes.now (search rules))) c.put.ensures

pub hexadecimal-requires : goal.hexadecimal-requires
hexadecimal-requires c = same_room (content_hex c.args.bytes.now (search rules)) c.requires

pub returns : goal.returns
returns c = same_text (sym (content_hex c.args.bytes.now (search rules))) c.hexadecimal.ensures
