-- The record: what a KIF text says and what a block holds.
-- Assumes nothing: these are definitions.
use Rattle.std.specs.Prelude.{ℕ, List}
use Rattle.jkf.specs.declared.Entry.{Entry}
use Rattle.jkf.specs.declared.Position.{Position}

-- A header entry: a key and its value.
pub record Header : Type 0 where
  pub key : List ℕ
  pub value : List ℕ

-- An entry of a line with its comments.
pub record Noted : Type 0 where
  pub what : Entry
  pub comments : List (List ℕ)

-- A line of play: the ply that it starts at, the line that it hangs on, and its entries.
pub record Line : Type 0 where
  pub start : ℕ
  pub parent : ℕ
  pub entries : List Noted

pub record Record : Type 0 where
  pub version : ℕ
  pub headers : List Header
  pub position : Position
  pub lines : List Line
