-- The CRC-32 of bytes, bit by bit, as zlib reckons it: in each byte the bit of the least weight comes first.
use Rattle.std.specs.Prelude.{ℕ, ◌/◌, ◌%◌, ◌==◌, if◌then◌else◌, List}
use Rattle.std.specs.Int.Bits.{bit_xor}
use Rattle.std.specs.List.{fold}

-- the polynomial x^32 + x^26 + x^23 + x^22 + x^16 + x^12 + x^11 + x^10 + x^8 + x^7 + x^5 + x^4 + x^2 + x + 1 without its first
-- term: the coefficient of x^31 in the lowest bit, and that of 1 in the highest of 32
abbrev pub polynomial : ℕ
polynomial = 3988292384

-- the remainder of a sum, a bit on: the lowest bit is shifted out, and if it is 1 the polynomial is taken off
unfoldable pub crc_step : ℕ → ℕ
crc_step sum = if sum % 2 == 1 then bit_xor (sum / 2) polynomial else sum / 2

-- a byte more: eight bits
unfoldable pub crc_byte : ℕ → ℕ → ℕ
crc_byte sum byte = crc_step (crc_step (crc_step (crc_step (crc_step (crc_step (crc_step (crc_step (bit_xor sum byte))))))))

abbrev pub all_ones : ℕ
all_ones = 4294967295

-- it begins with ones, and is inverted at the end
unfoldable pub crc32 : List ℕ → ℕ
crc32 bytes = bit_xor (fold crc_byte all_ones bytes) all_ones
