use Rattle.std.proofs.Common.{w64, ◌^◌, arith}
use Rattle.std.specs.Int.Bits.{or_add_and}
use Rattle.std.proofs.lemmas.Nat.{one_shl}
use Rattle.std.proofs.lemmas.Nat.Bits.{bit_at_set_same, bit_at_set_other, and_pow}
use Rattle.km_marks.proofs.bits.with_bit.Goals as goal

pub returns : goal.returns
returns c = record {
  set = bit_at_set_same w64 _ _ c.requires;
  others = bit_at_set_other w64 _ _ c.requires;
  more = λ zero. grind (arith, zero, one_shl c.args.k 64 c.requires, and_pow c.args.word c.args.k, or_add_and c.args.word (2 ^ c.args.k));
}
