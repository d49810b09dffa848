-- Laws of the atoms of a content and of the fields of a file in turn: where no whole one is left, `atoms_short`, `frames_short` and `frame_cut_off`, and the first and the others, `atoms_first`, `frames_first`, and from a place on `atoms_at` and `frame_taken`. Assumes nothing.
use mathlib.Core.Path.{◌≡◌, refl, sym, ap, ap₂, ◌∙◌}
use mathlib.Core.Logic.{⊎_elim}
use mathlib.Core.List.{List, [], ◌∷◌}
use Prim.Native.Nat.{ℕ, zero, suc, ◌+◌, ◌-◌, ◌*◌, ◌/◌, ◌≤◌, ◌<◌}
use native.Mathlib.Omega.{arith}
use lib.ListN.{length, get_or, take, drop, length-drop}
use lib.Dec.{T, leb, not_T}
use lib.Seq.{get_or-take, drop-drop}
use mathlib.Core.Bool.{Bool, cond}
use Rattle.lists.proofs.TestLaws.{both_hold, le_holds, test_cases, test_true, fails_false}
use Rattle.rules.specs.declared.field.Atom.{Atom}
use Rattle.rules.specs.declared.field.Head.{Head}
use Rattle.rules.specs.declared.field.Tag.{Tag}
use Rattle.rules.specs.Reading.{set_at, tag_of, head_of, content_of, atom_of, atoms_of, size_of}
use Rattle.rules.specs.Each.{Framed, atoms_in, is_whole, frame_of, frames_of, frames_from}

-- no whole atom is left
pub atoms_short : (bytes : List ℕ) → length bytes < 5 → atoms_in bytes ≡ []
unfolding atoms_of
atoms_short bytes h = let none : length bytes / 5 ≡ 0 = omega arith in ap (λ (k : ℕ). atoms_of k bytes) none

-- the atom at the front of the bytes reads five of them
atom_front : (bytes : List ℕ) → atom_of (take 5 bytes) ≡ atom_of bytes
unfolding atom_of set_at
atom_front bytes = λ i. record { position = at 0 (omega arith) i; set = ((at 1 (omega arith) i * 256 + at 2 (omega arith) i) * 256 + at 3 (omega arith) i) * 256 + at 4 (omega arith) i }
  where
    at : (k : ℕ) → k < 5 → get_or (take 5 bytes) k 0 ≡ get_or bytes k 0
    at k h = get_or-take 5 bytes k 0 h

-- the first atom, and the others
pub atoms_first : (bytes : List ℕ) → 5 ≤ length bytes → atoms_in bytes ≡ atom_of (take 5 bytes) ∷ atoms_in (drop 5 bytes)
unfolding atoms_of
atoms_first bytes h =
    ap (λ (k : ℕ). atoms_of k bytes) more ∙ ap (λ (a : Atom). a ∷ atoms_in (drop 5 bytes)) (sym (atom_front bytes))
  where
    more : length bytes / 5 ≡ suc (length (drop 5 bytes) / 5)
    more = omega (arith, length-drop 5 bytes)

-- the first atom from a place on, and the others
pub atoms_at : (bytes : List ℕ) (at : ℕ) → at + 5 ≤ length bytes → atoms_in (drop at bytes) ≡ atom_of (drop at bytes) ∷ atoms_in (drop (at + 5) bytes)
atoms_at bytes at h =
    atoms_first (drop at bytes) (omega (arith, length-drop at bytes))
    ∙ ap₂ (λ (a : Atom) (bs : List ℕ). a ∷ atoms_in bs) (atom_front (drop at bytes)) (drop-drop 5 at bytes)

-- ---- fields

-- a field that stands whole is the first, and the fields behind it follow
pub on_whole : (k place : ℕ) (bytes : List ℕ) → T (is_whole bytes) → frames_of (suc k) place bytes ≡ frame_of place bytes ∷ frames_of k (place + size_of bytes) (drop (size_of bytes) bytes)
unfolding frames_of
on_whole k place bytes t =
    ap (λ (b : Bool). cond b (frame_of place bytes ∷ frames_of k (place + size_of bytes) (drop (size_of bytes) bytes)) []) (test_true (is_whole bytes) t)

-- where none stands whole there is none
pub on_none : (k place : ℕ) (bytes : List ℕ) → (T (is_whole bytes) → ⊥) → frames_of k place bytes ≡ []
unfolding frames_of
on_none zero place bytes not = refl
on_none (suc k) place bytes not =
    ap (λ (b : Bool). cond b (frame_of place bytes ∷ frames_of k (place + size_of bytes) (drop (size_of bytes) bytes)) []) ((fails_false (is_whole bytes)).0 (not_T (is_whole bytes) not))

-- a field that stands whole has 3 bytes or more, and all of them are there
pub whole_there : (bytes : List ℕ) → T (is_whole bytes) → (3 ≤ size_of bytes) × (size_of bytes ≤ length bytes)
unfolding is_whole size_of
whole_there bytes t = let both = (both_hold (leb 3 (length bytes)) _).0 t in (omega arith, (le_holds _ (length bytes)).0 both.1)

-- and where they are, it stands whole
pub whole_where : (bytes : List ℕ) → 3 ≤ length bytes → size_of bytes ≤ length bytes → T (is_whole bytes)
unfolding is_whole
whole_where bytes head size = (both_hold (leb 3 (length bytes)) (leb (size_of bytes) (length bytes))).1 ((le_holds 3 (length bytes)).1 head, (le_holds (size_of bytes) (length bytes)).1 size)

-- as many steps as there are bytes are enough
pub enough : (j k place : ℕ) (bytes : List ℕ) → length bytes ≤ j → length bytes ≤ k → frames_of j place bytes ≡ frames_of k place bytes
enough zero k place bytes few many = on_none zero place bytes (λ t. let there = whole_there bytes t in omega arith) ∙ sym (on_none k place bytes (λ t. let there = whole_there bytes t in omega arith))
enough (suc j) zero place bytes few many = on_none (suc j) place bytes (λ t. let there = whole_there bytes t in omega arith) ∙ sym (on_none zero place bytes (λ t. let there = whole_there bytes t in omega arith))
enough (suc j) (suc k) place bytes few many =
    ⊎_elim (λ t. whole t (enough j k (place + size_of bytes) (drop (size_of bytes) bytes) (fewer t j few) (fewer t k many))) none (test_cases (is_whole bytes))
  where
    fewer : T (is_whole bytes) → (m : ℕ) → length bytes ≤ suc m → length (drop (size_of bytes) bytes) ≤ m
    fewer t m h = let there = whole_there bytes t in omega (arith, length-drop (size_of bytes) bytes)

    none : (T (is_whole bytes) → ⊥) → frames_of (suc j) place bytes ≡ frames_of (suc k) place bytes
    none not = on_none (suc j) place bytes not ∙ sym (on_none (suc k) place bytes not)

    whole : T (is_whole bytes) → frames_of j (place + size_of bytes) (drop (size_of bytes) bytes) ≡ frames_of k (place + size_of bytes) (drop (size_of bytes) bytes)
        → frames_of (suc j) place bytes ≡ frames_of (suc k) place bytes
    whole t others = on_whole j place bytes t ∙ ap (λ (fs : List Framed). frame_of place bytes ∷ fs) others ∙ sym (on_whole k place bytes t)

-- no head is left
pub frames_short : (place : ℕ) (bytes : List ℕ) → length bytes < 3 → frames_from place bytes ≡ []
frames_short place bytes h = on_none (length bytes) place bytes (λ t. let there = whole_there bytes t in omega arith)

-- the head at a place announces more bytes than are left behind it
pub frame_cut_off : (input : List ℕ) (at : ℕ) {head : Head} → head ≡ head_of (drop at input) → length input - (at + 3) < head.length → frames_from at (drop at input) ≡ []
unfolding size_of
frame_cut_off input at {head} here cut =
    let bytes = drop at input in
    let len : head.length ≡ (head_of bytes).length = ap (λ (h : Head). h.length) here in
    on_none (length bytes) at bytes (λ t. let there = whole_there bytes t in omega (arith, there, len, length-drop at input))

-- the first field, and the others
pub frames_first : (place : ℕ) (bytes : List ℕ) → 3 ≤ length bytes → (head_of bytes).length ≤ length (drop 3 bytes)
    → frames_from place bytes ≡ frame_of place bytes ∷ frames_from (place + size_of bytes) (drop (size_of bytes) bytes)
unfolding size_of
frames_first place bytes head content =
    let size : size_of bytes ≤ length bytes = omega (arith, length-drop 3 bytes) in
    let t = whole_where bytes head size in
    let more : length bytes ≡ suc (length bytes - 1) = omega arith in
    ap (λ (k : ℕ). frames_of k place bytes) more ∙ on_whole (length bytes - 1) place bytes t
    ∙ ap (λ (fs : List Framed). frame_of place bytes ∷ fs)
    (enough (length bytes - 1) (length (drop (size_of bytes) bytes)) (place + size_of bytes) (drop (size_of bytes) bytes)
    (omega (arith, length-drop (size_of bytes) bytes)) (omega arith))

-- a field was taken at a place: its head was read, and its content is what follows that
pub frame_taken : (input : List ℕ) (at : ℕ) {left : List Framed} {head : Head} {kind : Tag} → frames_from at (drop at input) ≡ left → at + 3 ≤ length input
    → head ≡ head_of (drop at input) → head.length ≤ length input - (at + 3) → kind ≡ tag_of head.tag
    → left
    ≡ record { place = at; kind = kind; content = take (at + 3 + head.length - (at + 3)) (drop (at + 3) input) } ∷ frames_from (at + 3 + head.length) (drop (at + 3 + head.length) input)
unfolding frame_of size_of content_of
frame_taken input at {head = head} view long here there is =
    let bytes = drop at input in
    let len : head.length ≡ (head_of bytes).length = ap (λ (h : Head). h.length) here in
    let end : at + (3 + (head_of bytes).length) ≡ at + 3 + head.length = omega (arith, len) in
    let part : (head_of bytes).length ≡ at + 3 + head.length - (at + 3) = omega (arith, len) in
    sym view ∙ frames_first at bytes (omega (arith, length-drop at input)) (omega (arith, len, length-drop 3 bytes, length-drop at input))
    ∙ ap₂ (λ (f : Framed) (fs : List Framed). f ∷ fs)
    (λ i. record {
      place = at;
      kind = (sym (is ∙ ap (λ (h : Head). tag_of h.tag) here)) i;
      content = (ap₂ take part (drop-drop 3 at input)) i;
    })
    (ap₂ frames_from end (drop-drop (3 + (head_of bytes).length) at input ∙ ap (λ (k : ℕ). drop k input) end))
