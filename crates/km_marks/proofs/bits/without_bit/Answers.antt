use Rattle.std.proofs.Common.{w64, ◌+◌, ◌-◌, ◌^◌, ap, ◌∙◌, arith}
use Rattle.std.specs.Int.Bits.{bit_and}
use Rattle.std.proofs.lemmas.Nat.{one_shl}
use Rattle.std.proofs.lemmas.Nat.Bits.{bit_at_clear_same, bit_at_clear_other}
use Rattle.std.proofs.Math.Pow.{pow-lt}
use Rattle.km_marks.proofs.Words.{cleared}
use Rattle.km_marks.proofs.bits.without_bit.Goals as goal

pub returns : goal.returns
returns c = record {
  clear = bit_at_clear_same w64 _ _ c.requires;
  others = bit_at_clear_other w64 _ _ c.requires;
  fewer = λ one. ap (λ m. bit_and c.args.word (2 ^ 64 - 1 - m) + 2 ^ c.args.k) (one_shl c.args.k 64 c.requires) ∙ cleared c.args.word c.args.k (omega arith) (pow-lt c.requires) one;
}
