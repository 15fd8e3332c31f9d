-- The contents of a station, and the station that contents would be of.
use Rattle.std.specs.Prelude.{ℕ, ◌+◌, ◌*◌, ◌/◌, ◌%◌, ◌≡◌, ◌≤◌, Bool, true, ◌&&◌, List, [], ◌∷◌, leb, get_or}
use Rattle.rules.specs.Basics.{tabulate}
use Rattle.rules.specs.Charge.{Charge}
use Rattle.rules.specs.Site.{places, Feeder, State}
use Rattle.rules.specs.Calls.{bound_of}
use Rattle.charges.specs.Arrays.{charge}
use Rattle.layout.specs.Lists.{listed}
use Rattle.layout.specs.Bytes.{number_at}
use Rattle.layout.specs.Arrangement.{per_block, number_of}
use Rattle.layout.specs.Image.{content}
use Rattle.layout.specs.Reading.{header_at}
use Rattle.validity.specs.declared.header.Header.{Header}
use Rattle.validity.specs.Settled.{settings_valid}

-- byte m of the contents of a station
abbrev pub content_byte : State → ℕ → ℕ
content_byte s m = content s (m / per_block) (m % per_block)

unfoldable pub contents_of : State → List ℕ
contents_of s = listed (content_byte s) 4572

-- where byte j of record q lies among the contents
abbrev pub record_place : ℕ → ℕ → ℕ
record_place q j = per_block + number_of q j

abbrev pub record_in : List ℕ → ℕ → ℕ → ℕ
record_in contents q j = get_or contents (record_place q j) 0

-- the number of record q that begins at its byte `from`
unfoldable pub field_in : List ℕ → ℕ → ℕ → ℕ → ℕ
field_in contents from width q = number_at (record_in contents q) from width

-- the charge of record q, with this r
abbrev pub charge_from : List ℕ → ℕ → ℕ → Charge
charge_from contents tail q =
    charge (field_in contents 0 4 q) (field_in contents 18 1 q) (field_in contents 12 4 q) (field_in contents 16 2 q)
    (field_in contents 16 2 q + tail) (field_in contents 8 4 q) (field_in contents 4 4 q) (field_in contents 19 1 q)

abbrev pub feeder_from : List ℕ → Feeder
feeder_from contents =
    record {
      limit = header_at contents 0;
      percent = header_at contents 4;
      bound = bound_of (header_at contents 0) (header_at contents 4);
      tail = header_at contents 8;
      charges = tabulate (charge_from contents (header_at contents 8)) (header_at contents 20) 0;
    }

unfoldable pub state_from : List ℕ → State
state_from contents =
    record {
      feeders = feeder_from contents ∷ [];
      site = header_at contents 24;
      clock = header_at contents 12;
      next = header_at contents 16;
    }

-- the numbers of block 0
abbrev pub header_in : List ℕ → Header
header_in contents =
    record {
      settings = record { limit = header_at contents 0; percent = header_at contents 4; tail = header_at contents 8 };
      clock = header_at contents 12;
      next = header_at contents 16;
      held = header_at contents 20;
      site = header_at contents 24;
    }

-- the number held is in range, and the settings pass their test
abbrev pub in_range : Header → Bool
in_range h =
    leb h.held places && settings_valid h.settings.limit h.settings.percent h.settings.tail h.clock h.next h.site

unfoldable pub header_right : List ℕ → Bool
header_right contents = in_range (header_in contents)

-- contents of which these are the numbers of block 0, and pass their test
pub record Headed (contents : List ℕ) (h : Header) : Type 0 where
  pub is : h ≡ header_in contents
  pub right : header_right contents ≡ true
  pub few : h.held ≤ places
  pub tail_few : h.settings.tail ≤ 5
  pub product_few : h.settings.percent * h.settings.limit ≤ 6000
