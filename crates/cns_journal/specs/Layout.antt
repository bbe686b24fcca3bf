-- How the records of a journal stand in a file (this project's own layout): one after another from the first byte on, each a gate
-- byte, the length of its payload (4 bytes, the highest first) and the payload; behind it the gate of the next one.
use Rattle.std.specs.Prelude.{◌≡◌, ◌⊎◌, ℕ, zero, suc, ◌+◌, ◌*◌, ◌<◌, Bool, ◌&&◌, nat_lt, nat_le, nat_eq, if◌then◌else◌, List, [], ◌∷◌, ◌++◌, length, take, drop, slice_index_or}
use Rattle.std.specs.Int.{to_be_bytes, w32}
use Rattle.cns_journal.specs.Disk.{Only}

-- the length that bytes 1 to 4 give
abbrev pub payload_length : List ℕ → ℕ
payload_length bytes = slice_index_or bytes 1 0 * 16777216 + slice_index_or bytes 2 0 * 65536 + slice_index_or bytes 3 0 * 256 + slice_index_or bytes 4 0

-- the first record of these bytes counts: its gate is open (0xA5), its length at most 1,048,576, its payload whole, and the next gate
-- is there
abbrev pub counts : List ℕ → Bool
counts bytes = nat_eq (slice_index_or bytes 0 0) 165 && nat_le (payload_length bytes) 1048576 && nat_lt (5 + payload_length bytes) (length bytes)

-- the payload of the first record
abbrev pub first_payload : List ℕ → List ℕ
first_payload bytes = take (payload_length bytes) (drop 5 bytes)

-- the bytes behind the first record, from the next gate on
abbrev pub behind : List ℕ → List ℕ
behind bytes = drop (5 + payload_length bytes) bytes

-- the payloads of the first records that count, at most n of them
abbrev pub first_records : ℕ → List ℕ → List (List ℕ)
first_records zero bytes = []
first_records (suc n) bytes = if counts bytes then first_payload bytes ∷ first_records n (behind bytes) else []

-- the payloads of the longest prefix of records that count: no more of them than bytes
abbrev pub journal_of : List ℕ → List (List ℕ)
journal_of file = first_records (length file) file

-- how many bytes these records take
abbrev pub size_of : List (List ℕ) → ℕ
size_of [] = 0
size_of (payload ∷ rest) = 5 + length payload + size_of rest

-- a record's bytes behind its gate, and the next gate, closed
abbrev pub closed_record : List ℕ → List ℕ
closed_record payload = to_be_bytes w32 (length payload) ++ payload ++ 0 ∷ []

-- the file stands for these records, with one more or without it
abbrev pub HasWithOrWithout : List (List ℕ) → List ℕ → List ℕ → Type 0
HasWithOrWithout records payload file = (journal_of file ≡ records) ⊎ (journal_of file ≡ records ++ payload ∷ [])

-- a closed gate stands at the end of the file's records, and all of it is on the disk
pub record IsSettled (file : List ℕ) (images : List ℕ → Type 0) (end : ℕ) : Type 0 where
  pub end_is : end ≡ size_of (journal_of file)
  pub inside : end < length file
  pub closed : slice_index_or file end 1 ≡ 0
  pub durable : Only file images
