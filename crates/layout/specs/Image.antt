-- "Save writes a station as nine blocks of 512 bytes: 508 bytes, then a 32-bit check": the image of a station, by place.
use Rattle.std.specs.Prelude.{ℕ, zero, suc, ◌+◌, ◌-◌, ◌*◌, ◌/◌, ◌%◌, cond, List, [], ◌∷◌, ltb, eqb, length, get_or}
use Rattle.rules.specs.Charge.{Charge}
use Rattle.rules.specs.Site.{Feeder, State, feeder_of}
use Rattle.layout.specs.Lists.{listed}
use Rattle.layout.specs.Bytes.{byte_of, packed}
use Rattle.layout.specs.Arrangement.{per_block, record_of, byte_in}

-- what stands where no charge is held
abbrev pub no_charge : Charge
no_charge =
    record {
      ticket = 0;
      line = 0;
      order_minute = 0;
      time = 0;
      active_time = 0;
      due = 0;
      start = 0;
      rate = 0;
    }

-- "Save, restore and the bus serve a site of one feeder": this one. A site of several feeders is not saved (Saving.antt).
abbrev pub only : State → Feeder
only s = feeder_of s 1

-- charge q of the charges held, which stand "in ticket order"
abbrev pub held_at : State → ℕ → Charge
held_at s q = get_or (only s).charges q no_charge

-- "Block 0 holds, in 32 bits each, N, c, r, clock, next ticket and number held.", and "block 0 gains W (32 bits) last"
abbrev pub header_of : State → List (ℕ × ℕ)
header_of s =
    (4, (only s).limit) ∷ (4, (only s).percent) ∷ (4, (only s).tail) ∷ (4, s.clock) ∷ (4, s.next)
    ∷ (4, length (only s).charges) ∷ (4, s.site) ∷ []

-- a record: "ticket, start, d, order minute (32 bits each), p (16), line (8), rate (8)"
abbrev pub fields_of : Charge → List (ℕ × ℕ)
fields_of c =
    (4, c.ticket) ∷ (4, c.start) ∷ (4, c.due) ∷ (4, c.order_minute) ∷ (2, c.time) ∷ (1, c.line) ∷ (1, c.rate) ∷ []

-- byte j of record q
unfoldable pub record_byte : State → ℕ → ℕ → ℕ
record_byte s q j = cond (ltb q (length (only s).charges)) (packed (fields_of (held_at s q)) j) 0

-- the byte of the records with number z
unfoldable pub numbered : State → ℕ → ℕ
numbered s z = cond (ltb z 4000) (record_byte s (record_of z) (byte_in z)) 0

-- byte i of block b, of the 508 that the check counts; "All else is zero."
unfoldable pub content : State → ℕ → ℕ → ℕ
content s b i = cond (eqb b 0) (packed (header_of s) i) (cond (ltb i per_block) (numbered s (per_block * (b - 1) + i)) 0)

-- "the sum of (place + 1) × byte, places from 0", over the first n places
unfoldable pub weighed : (ℕ → ℕ) → ℕ → ℕ
weighed f zero = 0
weighed f (suc n) = weighed f n + suc n * f n

unfoldable pub check_of : (ℕ → ℕ) → ℕ
check_of f = weighed f 508

-- byte i of the 512 of a block of which f is the content
abbrev pub block_byte : (ℕ → ℕ) → ℕ → ℕ
block_byte f i = cond (ltb i 508) (f i) (byte_of (i - 508) (check_of f))

-- byte k of the image
abbrev pub byte_at : State → ℕ → ℕ
byte_at s k = block_byte (content s (k / 512)) (k % 512)

unfoldable pub image_of : State → List ℕ
image_of s = listed (byte_at s) 4608
