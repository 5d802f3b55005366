-- The search for a parent along the stored parents, in a table of lines in lent memory.               (01, Attaching rule)
-- Assumes nothing: these are definitions.
use Rattle.std.specs.Prelude.{ℕ, zero, suc, ◌+◌, ◌*◌, ◌-◌, ◌<◌, ◌≡◌, List, leb, ltb, Option}
use Rattle.lists.specs.Pick.{pick}
use Rattle.lent.specs.Bytes.{le16}
use Rattle.jkf.specs.Attaching.{near, hang_on}

-- A table of lines in lent memory: rows of eight bytes, start, first entry, entry count, parent.     (01, The block: line)
abbrev pub start_at : List ℕ → ℕ → ℕ
start_at lines k = le16 lines (8 * k)

abbrev pub count_at : List ℕ → ℕ → ℕ
count_at lines k = le16 lines (8 * k + 4)

abbrev pub parent_at : List ℕ → ℕ → ℕ
parent_at lines k = le16 lines (8 * k + 6)

-- Each of the first k lines but line 0 has the parent that the rule finds for it.
pub record Linked (lines : List ℕ) (k : ℕ) : Type 0 where
  pub parents : (i : ℕ) → 0 < i → i < k → parent_at lines i ≡ near (start_at lines) (start_at lines i) i

-- The search along the parents in a table, from line j on in at most n steps: the first line whose start is at or below s; 0 where a parent
-- is not before its line.
unfoldable pub follow : List ℕ → ℕ → ℕ → ℕ → ℕ
follow lines s zero j = 0
follow lines s (suc n) j =
    let r = follow lines s n (parent_at lines j) in
    pick (leb (start_at lines j) s) j (pick (ltb (parent_at lines j) j) r 0)

-- From the last of k lines on; and where a line with start s hangs by that.
abbrev pub followed : List ℕ → ℕ → ℕ → ℕ
followed lines s k = follow lines s k (k - 1)

unfoldable pub hangs_by : List ℕ → ℕ → ℕ → Option (ℕ × ℕ)
hangs_by lines s k = hang_on s (followed lines s k) (start_at lines (followed lines s k)) (count_at lines (followed lines s k))
