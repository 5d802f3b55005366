-- How long a row of each table is: an entry has 20 bytes, the other rows are numbers of two bytes.
-- Assumes nothing.
use Prim.Native.Nat.{ℕ}
use mathlib.Core.Path.{◌≡◌, refl}
use mathlib.Core.List.{List}
use lib.ListN.{length}
use Rattle.block.proofs.EntriesBack.{entry_length}
use Rattle.jkf.specs.Model.{Header, Noted, Line}
use Rattle.block.specs.Encode.{header_row, line_row, entry_row, comment_row}

pub header-wide : (s : ℕ) (h : Header) → length (header_row s h) ≡ 8
header-wide s h = refl

pub line-wide : (s : ℕ) (l : Line) → length (line_row s l) ≡ 8
line-wide s l = refl

pub entry-wide : (s : ℕ) (e : Noted) → length (entry_row s e) ≡ 20
entry-wide s e = entry_length _ _ _

pub comment-wide : (s : ℕ) (c : List ℕ) → length (comment_row s c) ≡ 4
comment-wide s c = refl
