-- The theorems of the block: a record has one block, a block one record, and what is read is sound.   (01, The block)
-- Assumes nothing: these are definitions.
use Rattle.std.specs.Prelude.{ℕ, ◌≤◌, ◌<◌, ◌≡◌, true, List, length, get_or, take}
use Rattle.jkf.specs.declared.Answer.TheVariants.{Done}
use Rattle.jkf.specs.Answers.{Outcome}
use Rattle.jkf.specs.Model.{Record}
use Rattle.text.specs.Utf8.{well_formed_bytes}
use Rattle.jkf.specs.Attaching.{all, all_hung}
use Rattle.block.specs.Encode.{formula_length, encode}
use Rattle.block.specs.Decode.{decode}
use Rattle.block.specs.Sound.{soundb}
use Rattle.block.specs.Formed.{Formed}
use Rattle.parser.specs.Parse.{parse, record_of, needed}
use Rattle.parser.specs.Read.{fill_of}

-- ---- words

-- Every number is a byte, as in a slice.
abbrev pub Bytes : List ℕ → Type 0
Bytes b = (k : ℕ) → get_or b k 0 < 256

-- The first n bytes of the lent buffer after a call.
abbrev pub front_of : ℕ → Outcome → List ℕ
front_of n x = take n x.buffer

-- ---- the theorems

pub record BlockTheorems : Type 0 where
  -- The block of a well-formed record is sound, and what is read off it is the record.
  pub sound-encode : (r : Record) → Formed r → soundb (encode r) ≡ true
  pub decode-encode : (r : Record) → Formed r → decode (encode r) ≡ r
  -- It is as long as 01's formula says.
  pub block-length : (r : Record) → Formed r → length (encode r) ≡ formula_length r
  -- The record of a sound block is well formed, and what is made of it is the block.
  pub decode_formed : (b : List ℕ) → Bytes b → soundb b ≡ true → Formed (decode b)
  pub encode-decode : (b : List ℕ) → Bytes b → soundb b ≡ true → encode (decode b) ≡ b
  -- So no two well-formed records have the same block, and no two sound blocks the same record.
  pub one_record : (r r' : Record) → Formed r → Formed r' → encode r ≡ encode r' → r ≡ r'
  pub one_block : (b b' : List ℕ) → Bytes b → Bytes b' → soundb b ≡ true → soundb b' ≡ true → decode b ≡ decode b' → b ≡ b'
  -- A well-formed text whose block is not too long and whose variations all hang says a well-formed record.
  pub read_formed : (s : List ℕ) → Bytes s → well_formed_bytes s ≡ length s → needed (parse s) ≤ 65535 → all_hung (parse s).plays ≡ all
      → Formed (record_of (parse s))
  -- Where a text is read, with the figures t and m, the first m bytes of the buffer are the block of the record that it says, which is well
  -- formed, and so they are sound.
  pub read_done : (s o : List ℕ) → Bytes s → (t m : ℕ) → (fill_of s o).answer ≡ Done t m
      → (front_of m (fill_of s o) ≡ encode (record_of (parse s))) × Formed (record_of (parse s))
  pub read-sound : (s o : List ℕ) → Bytes s → (t m : ℕ) → (fill_of s o).answer ≡ Done t m → soundb (front_of m (fill_of s o)) ≡ true
