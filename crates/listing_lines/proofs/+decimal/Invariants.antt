-- `listing_lines::decimal`: the digits before the last, then the last. The measure is the number.
use Rattle.listing_lines.proofs.+decimal.Given as goal

abbrev pub decreases-decimal : goal.decreases-decimal
decreases-decimal l = l.n
