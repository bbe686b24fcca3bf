-- Packets of bytes: how the bytes of one are stored, and which one a number means.
use Rattle.std.specs.Prelude.{◌≡◌, ℕ, ◌-◌, ◌==◌, List, ◌++◌, length, take, replicate, slice_get, Option, None, if◌then◌else◌}

-- bytes with zeros after them, 36 in all
abbrev pub padded : List ℕ → List ℕ
padded text = text ++ replicate (36 - length text) 0

-- how the bytes of a frame are stored: their length, and the bytes with zeros after them
pub record IsStored (len : ℕ) (bytes : List ℕ) : Type 0 where
  pub size : length (take len bytes) ≡ len
  pub rest : padded (take len bytes) ≡ bytes

-- the one of this number, counted from 1, of packets or of others
abbrev pub at_number : {A : Type 0} → List A → ℕ → Option A
at_number packets number = if number == 0 then None else slice_get packets (number - 1)

-- the packets that were put, the oldest first, and how many more there is room for
pub record PacketRoom : Type 0 where
  pub packets : List (List ℕ)
  pub room : ℕ
