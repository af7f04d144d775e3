use Rattle.wire.proofs.BitLaws.{xor_bit_is}
use Rattle.wire.proofs.bits.xor_bits.Goals as goal

pub returns : goal.returns
returns c = xor_bit_is _ _ c.requires.0 c.requires.1
