-- Where the bytes of the records lie. Only this file knows it: "Byte j (0 to 19) of record q (0 to 199, unused ones zero) gets the
-- number z = 200 × j + q; it goes to block 1 + z / 508 rounded down, at place z modulo 508."
use Rattle.std.specs.Prelude.{ℕ, ◌+◌, ◌*◌, ◌/◌, ◌%◌}

-- how many of the numbers a block has
abbrev pub per_block : ℕ
per_block = 508

abbrev pub number_of : ℕ → ℕ → ℕ
number_of q j = 200 * j + q

-- the record and the byte of it that have number z: "Restore undoes it exactly"
abbrev pub record_of : ℕ → ℕ
record_of z = z % 200

abbrev pub byte_in : ℕ → ℕ
byte_in z = z / 200

-- the place of number z in the image
abbrev pub place_of : ℕ → ℕ
place_of z = 512 * (1 + z / per_block) + z % per_block
