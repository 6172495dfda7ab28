use Rattle.std.proofs.Common.{arith}
use Rattle.bit_vectors.proofs.NumberBits.{length-bits_of, get_or-bits_of, bits_of_injective, length-padded, bits_of-vector_bytes, take-bits_of-vector_bytes}
use Rattle.bit_vectors.proofs.laws.bytes_and_vectors.Goals as goal

pub returns-clause-eight : goal.returns-clause-eight
returns-clause-eight c = length-bits_of

pub returns-clause-place : goal.returns-clause-place
returns-clause-place c = get_or-bits_of

pub returns-clause-told : goal.returns-clause-told
returns-clause-told c = bits_of_injective

pub returns-clause-whole : goal.returns-clause-whole
returns-clause-whole c = λ v. omega (arith, length-padded v)

pub returns-clause-short : goal.returns-clause-short
returns-clause-short c = λ v. omega (arith, length-padded v)

pub returns-clause-stored : goal.returns-clause-stored
returns-clause-stored c = bits_of-vector_bytes

pub returns-clause-again : goal.returns-clause-again
returns-clause-again c = take-bits_of-vector_bytes
