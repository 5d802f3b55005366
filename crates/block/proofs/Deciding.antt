-- The Bool that is computed is true exactly where the block is sound, since each test answers true exactly where what it says holds.
-- Assumes nothing.
use Prim.Native.Nat.{ℕ}
use mathlib.Core.Path.{◌≡◌}
use mathlib.Core.List.{List}
use mathlib.Core.Bool.{true}
use Rattle.lists.proofs.Tests.{says, answers}
use Rattle.block.specs.inner.Sounds.{Sound}
use Rattle.block.specs.Sound.{sound_test, soundb}

pub sound_says : (b : List ℕ) → soundb b ≡ true → Sound b
unfolding soundb
sound_says b h =
    let (head, (parts, (totals, (position, (headers, (lines, (entries, comments))))))) = says (sound_test b) h in
    record {
      head = head;
      parts = parts;
      totals = totals;
      position = position;
      headers = headers;
      lines = lines;
      entries = entries;
      comments = comments;
    }

pub sound_answers : (b : List ℕ) → Sound b → soundb b ≡ true
unfolding soundb
sound_answers b s =
    answers (sound_test b)
    (s.head, (s.parts, (s.totals, (s.position, (s.headers, (s.lines, (s.entries, s.comments)))))))
