-- That numbers are printed and read alike.
use Rattle.std.specs.Prelude.{◌≡◌, ℕ, ◌^◌, ◌<◌, ◌≤◌, Ok, length}
use Rattle.std.specs.Fmt.{decimal as printed}
use Rattle.text.specs.Numbers.{number_of, decimal}

-- A number of 32 bits that is printed is read back as that number.
abbrev pub PrintedIsReadBack : Type 0
PrintedIsReadBack = (n : ℕ) → n < 2 ^ 32 → number_of (decimal n) ≡ Ok n

-- The digits of a number of 64 bits are those that the library prints.
abbrev pub LibraryPrintsDigits : Type 0
LibraryPrintsDigits = (n : ℕ) → n < 2 ^ 64 → printed n ≡ decimal n

-- No number has more than 20 digits.
abbrev pub TwentyDigitsSuffice : Type 0
TwentyDigitsSuffice = (n : ℕ) → length (decimal n) ≤ 20
