-- An entry's 20 bytes say the entry, and where its comments are, whatever follows them.
--     entry-back     what is read is the entry that was written
--     entry_length   there are 20 bytes
--     first_back, count-back   the two numbers stand at 16 and 18
-- Assumes nothing.
use Rattle.std.specs.Prelude.{Option, Some, None}
use Prim.Native.Nat.{ℕ, ◌+◌, ◌<◌}
use native.Mathlib.Omega.{arith}
use mathlib.Core.Path.{◌≡◌, refl, ap, ◌∙◌}
use mathlib.Core.List.{List, [], ◌∷◌, ◌++◌, append_assoc}
use lib.ListN.{length, length-append}
use lib.Seq.{get_or-append-add}
use Rattle.lent.specs.Bytes.{le16, bytes16}
use Rattle.lent.proofs.Writes.{read16}
use Rattle.jkf.specs.declared.Special.{Special}
use Rattle.jkf.specs.declared.Special.TheVariants.{Toryo, Chudan, Sennichite, TimeUp, IllegalMove, IllegalActionBlack, IllegalActionWhite, Jishogi, Kachi, Hikiwake, Matta, Tsumi, Fuzumi, Error}
use Rattle.jkf.specs.declared.Clock.TheVariants.{Hms, Ms}
use Rattle.jkf.specs.declared.Time.{Time}
use Rattle.jkf.specs.declared.Time.TheVariants.{Untimed, Timed}
use Rattle.jkf.specs.declared.Target.{Target}
use Rattle.jkf.specs.declared.Target.TheVariants.{Same, Square}
use Rattle.jkf.specs.declared.Entry.{Entry}
use Rattle.jkf.specs.declared.Entry.TheVariants.{Slot, Moved, End}
use Rattle.block.specs.EntryBytes.{time_bytes, entry_head, entry_bytes, time_in, target_in, origin_in, move_in, entry_in}
use Rattle.jkf.specs.Entries.{special_number, special_of, time_of}
use Rattle.block.proofs.Joining.{joined}
use Rattle.block.proofs.Entering.{head-length, time-length}

-- ---- the entry

pub special_back : (s : Special) → special_of (special_number s) ≡ s
special_back Toryo = refl
special_back Chudan = refl
special_back Sennichite = refl
special_back TimeUp = refl
special_back IllegalMove = refl
special_back IllegalActionBlack = refl
special_back IllegalActionWhite = refl
special_back Jishogi = refl
special_back Kachi = refl
special_back Hikiwake = refl
special_back Matta = refl
special_back Tsumi = refl
special_back Fuzumi = refl
special_back Error = refl

end_back : (x : Special) (z : Time) (f n : ℕ) (r : List ℕ) → entry_in (entry_bytes (End x z) f n ++ r) ≡ End (special_of (special_number x)) z
unfolding entry_bytes entry_head entry_in time_in
end_back x Untimed f n r = refl
end_back x (Timed (Hms h m s) (Hms h' m' s')) f n r = refl
end_back x (Timed (Hms h m s) (Ms m' s')) f n r = refl
end_back x (Timed (Ms m s) (Hms h' m' s')) f n r = refl
end_back x (Timed (Ms m s) (Ms m' s')) f n r = refl

abbrev played : ℕ → ℕ → ℕ → Target → Option (ℕ × ℕ) → Time → Entry
played c p k t o z = Moved (record { color = c; piece = p; promote = k; to = t; from = o; time = z })

play_back : (c p k : ℕ) (t : Target) (o : Option (ℕ × ℕ)) (z : Time) (f n : ℕ) (r : List ℕ)
    → entry_in (entry_bytes (played c p k t o z) f n ++ r) ≡ played c p k t o z
unfolding entry_bytes entry_head entry_in move_in target_in origin_in time_in
play_back c p k Same None Untimed f n r = refl
play_back c p k Same None (Timed (Hms h m s) (Hms h' m' s')) f n r = refl
play_back c p k Same None (Timed (Hms h m s) (Ms m' s')) f n r = refl
play_back c p k Same None (Timed (Ms m s) (Hms h' m' s')) f n r = refl
play_back c p k Same None (Timed (Ms m s) (Ms m' s')) f n r = refl
play_back c p k Same (Some (u, v)) Untimed f n r = refl
play_back c p k Same (Some (u, v)) (Timed (Hms h m s) (Hms h' m' s')) f n r = refl
play_back c p k Same (Some (u, v)) (Timed (Hms h m s) (Ms m' s')) f n r = refl
play_back c p k Same (Some (u, v)) (Timed (Ms m s) (Hms h' m' s')) f n r = refl
play_back c p k Same (Some (u, v)) (Timed (Ms m s) (Ms m' s')) f n r = refl
play_back c p k (Square x y) None Untimed f n r = refl
play_back c p k (Square x y) None (Timed (Hms h m s) (Hms h' m' s')) f n r = refl
play_back c p k (Square x y) None (Timed (Hms h m s) (Ms m' s')) f n r = refl
play_back c p k (Square x y) None (Timed (Ms m s) (Hms h' m' s')) f n r = refl
play_back c p k (Square x y) None (Timed (Ms m s) (Ms m' s')) f n r = refl
play_back c p k (Square x y) (Some (u, v)) Untimed f n r = refl
play_back c p k (Square x y) (Some (u, v)) (Timed (Hms h m s) (Hms h' m' s')) f n r = refl
play_back c p k (Square x y) (Some (u, v)) (Timed (Hms h m s) (Ms m' s')) f n r = refl
play_back c p k (Square x y) (Some (u, v)) (Timed (Ms m s) (Hms h' m' s')) f n r = refl
play_back c p k (Square x y) (Some (u, v)) (Timed (Ms m s) (Ms m' s')) f n r = refl

pub entry_back : (e : Entry) (f n : ℕ) (r : List ℕ) → entry_in (entry_bytes e f n ++ r) ≡ e
unfolding entry_bytes entry_head entry_in
entry_back Slot f n r = refl
entry_back (Moved m) f n r = play_back m.color m.piece m.promote m.to m.from m.time f n r
entry_back (End x z) f n r = end_back x z f n r ∙ ap (λ (s : Special). End s z) (special_back x)

-- ---- the numbers

pub entry_length : (e : Entry) (f n : ℕ) → length (entry_bytes e f n) ≡ 20
unfolding entry_bytes
entry_length e f n = simp (length-append, head-length, time-length)

-- a number that stands after k bytes
after : (a b : List ℕ) (k : ℕ) → length a ≡ k → le16 (a ++ b) k ≡ le16 b 0
after a b k e =
    let h : k ≡ length a + 0 = omega arith in
    let g : k + 1 ≡ length a + 1 = omega arith in
    rw (g, get_or-append-add a b 1 0, h, get_or-append-add a b 0 0)

-- the bytes before the numbers
abbrev front : Entry → List ℕ
front e = entry_head e ++ time_bytes (time_of e) ++ (0 ∷ [])

front_length : (e : Entry) → length (front e) ≡ 16
front_length e = simp (length-append, head-length, time-length)

pub first_back : (e : Entry) (f n : ℕ) (r : List ℕ) → f < 65536 → le16 (entry_bytes e f n ++ r) 16 ≡ f
unfolding entry_bytes
first_back e f n r h =
    ap (λ (l : List ℕ). le16 l 16) (joined (front e) (bytes16 f) (bytes16 n) r)
    ∙ after (front e) (bytes16 f ++ (bytes16 n ++ r)) 16 (front_length e) ∙ read16 f (bytes16 n ++ r) h

pub count_back : (e : Entry) (f n : ℕ) (r : List ℕ) → n < 65536 → le16 (entry_bytes e f n ++ r) 18 ≡ n
unfolding entry_bytes
count_back e f n r h =
    ap (λ (l : List ℕ). le16 l 18) (append_assoc (front e ++ bytes16 f) (bytes16 n) r)
    ∙ after (front e ++ bytes16 f) (bytes16 n ++ r) 18 (length-append (front e) (bytes16 f) ∙ ap (λ (k : ℕ). k + 2) (front_length e)) ∙ read16 n r h
