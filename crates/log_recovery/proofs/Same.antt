-- Bytes are read as one list of entries.
use Rattle.std.proofs.Common.{◌≡◌, ℕ, zero, suc, ◌+◌, ◌*◌, ◌<◌, ◌≤◌, ◌^◌, Bool, true, false, cond, not, List, [], ◌∷◌, ◌++◌, length, take, drop, Some, None, sym, refl, ap, ◌∙◌, subst, ⊎_elim, arith}
use Rattle.std.specs.Prelude.{slice_get, option_and_then}
use Rattle.std.specs.List.{position, position_or_len, prefix_len}
use Rattle.std.proofs.lemmas.Bool.{lt-ltb, cases_lt}
use Rattle.std.proofs.lemmas.Option.{same_Some, slice_get_within}
use Rattle.block_tag.specs.declared.catalogue.RelEntry.{RelEntry}
use Rattle.block_tag.specs.Names.{fork_number}
use Rattle.block_tag.specs.Catalogue.{IsCatalogue, is_twin}
use Rattle.history_core.specs.Log.{Change, image, ranges, resize, Entry, change_size, end_of}
use Rattle.log_recovery.specs.Records.{NamesBlock, HasChange, IsRecord, Reads}

-- a place before n is among the first n
get_take : {X : Type 0} (xs : List X) (n i : ℕ) (x : X) → i < n → slice_get xs i ≡ Some x → slice_get (take n xs) i ≡ Some x
get_take [] n i x low at = absurd (let e : None ≡ Some x = at in cc)
get_take (y ∷ ys) zero i x low at = absurd (omega arith)
get_take (y ∷ ys) (suc n) zero x low at = at
get_take (y ∷ ys) (suc n) (suc i) x low at = get_take ys n i x (omega arith) at

-- where an item passes, the first that does is within the list
passes_within : {X : Type 0} (t : X → Bool) (xs : List X) (i : ℕ) (x : X) → slice_get xs i ≡ Some x → t x ≡ true → prefix_len (λ y. not (t y)) xs < length xs
passes_within t [] i x at is = absurd (let e : None ≡ Some x = at in cc)
passes_within t (y ∷ ys) zero x at is = let same : t y ≡ true = ap t (same_Some y x at) ∙ is in
    let none : prefix_len (λ z. not (t z)) (y ∷ ys) ≡ 0 = ap (λ (b : Bool). cond (not b) (1 + prefix_len (λ z. not (t z)) ys) 0) same in omega (arith, none)
passes_within t (y ∷ ys) (suc i) x at is = by (t y) refl (passes_within t ys i x at is)
  where
    by : (b : Bool) → t y ≡ b → prefix_len (λ z. not (t z)) ys < length ys → prefix_len (λ z. not (t z)) (y ∷ ys) < length (y ∷ ys)
    by true e low = let none : prefix_len (λ z. not (t z)) (y ∷ ys) ≡ 0 = ap (λ (b : Bool). cond (not b) (1 + prefix_len (λ z. not (t z)) ys) 0) e in omega (arith, none)
    by false e low = let more : prefix_len (λ z. not (t z)) (y ∷ ys) ≡ 1 + prefix_len (λ z. not (t z)) ys = ap (λ (b : Bool). cond (not b) (1 + prefix_len (λ z. not (t z)) ys) 0) e in omega (arith, more, low)

found : {X : Type 0} (t : X → Bool) (xs : List X) (i : ℕ) (x : X) → slice_get xs i ≡ Some x → t x ≡ true → position t xs ≡ None → ⊥
found t xs i x at is none = let n = position_or_len t xs in
    let some : position t xs ≡ Some n = ap (λ (b : Bool). cond b (Some n) None) (lt-ltb n (length xs) (passes_within t xs i x at is)) in
    let e : Some n ≡ None = sym some ∙ none in cc

pub twins : (a b : RelEntry) → a.tablespace ≡ b.tablespace → a.database ≡ b.database → a.relation ≡ b.relation → is_twin a b ≡ true
twins a b x y z = grind (arith, x, y, z)

module _ (relations : List RelEntry) (catalogue : IsCatalogue relations) where
  before_none : (i j : ℕ) (a b : RelEntry) → slice_get relations i ≡ Some a → slice_get relations j ≡ Some b → is_twin b a ≡ true → i < j → ⊥
  before_none i j a b at to twin low = found (is_twin b) (take j relations) i a (get_take relations j i a low at) twin
      (sym (ap (option_and_then (λ (e : RelEntry). position (is_twin e) (take j relations))) to) ∙ catalogue.apart j (slice_get_within relations j b to))

  -- a relation has one place
  one_place : (i j : ℕ) (a b : RelEntry) → slice_get relations i ≡ Some a → slice_get relations j ≡ Some b → a.tablespace ≡ b.tablespace → a.database ≡ b.database → a.relation ≡ b.relation → i ≡ j
  one_place i j a b at to x y z = ⊎_elim
      (λ (low : i < j). absurd (before_none i j a b at to (twins b a (sym x) (sym y) (sym z)) low))
      (λ (ge : j ≤ i). ⊎_elim (λ (low : j < i). absurd (before_none j i b a to at (twins a b x y z) low)) (λ (le : i ≤ j). omega arith) (cases_lt j i))
      (cases_lt i j)

  same_word : (bytes : List ℕ) (v w : ℕ) → NamesBlock relations bytes v → NamesBlock relations bytes w → v ≡ w
  same_word bytes v w a b =
      let rel = one_place a.tag.rel.0 b.tag.rel.0 a.relation b.relation a.listed b.listed (sym a.tablespace ∙ b.tablespace) (sym a.database ∙ b.database) (sym a.number ∙ b.number) in
      let fork : fork_number a.tag.fork ≡ fork_number b.tag.fork = sym a.fork ∙ b.fork in
      let block : a.tag.block ≡ b.tag.block = sym a.block ∙ b.block in
      a.is ∙ ap (λ (n : ℕ). n * 2 ^ 40 + fork_number a.tag.fork * 2 ^ 32 + a.tag.block) rel
      ∙ ap (λ (n : ℕ). b.tag.rel.0 * 2 ^ 40 + n * 2 ^ 32 + a.tag.block) fork
      ∙ ap (λ (n : ℕ). b.tag.rel.0 * 2 ^ 40 + fork_number b.tag.fork * 2 ^ 32 + n) block ∙ sym b.is

  same_change : (bytes : List ℕ) (c d : Change) → HasChange relations bytes c → HasChange relations bytes d → c ≡ d
  same_change bytes (image v p) (image w q) a b = ap (λ (n : ℕ). image n p) (same_word bytes v w a.0 b.0) ∙ ap (image w) (a.1 ∙ sym b.1)
  same_change bytes (image v p) (ranges w spans) a b = absurd b
  same_change bytes (image v p) (resize fork old new) a b = absurd b
  same_change bytes (ranges v spans) d a b = absurd a
  same_change bytes (resize fork old new) d a b = absurd a

  abbrev entry_of : ℕ → ℕ → Change → Entry
  entry_of s n c = record { start = s; backend = n; change = c }

  -- a record is of one entry
  pub same_record : (from : ℕ) (before : List Entry) (bytes : List ℕ) (e d : Entry) → IsRecord relations from before bytes e → IsRecord relations from before bytes d → e ≡ d
  same_record from before bytes e d a b =
      ap (λ (s : ℕ). entry_of s e.backend e.change) (a.starts ∙ sym b.starts)
      ∙ ap (λ (n : ℕ). entry_of d.start n e.change) (a.backend ∙ sym b.backend)
      ∙ ap (λ (c : Change). entry_of d.start d.backend c) (same_change bytes e.change d.change a.change b.change)

  pub read_once : (from : ℕ) (before : List Entry) (bytes : List ℕ) (es ds : List Entry) → Reads relations from before bytes es → Reads relations from before bytes ds → es ≡ ds
  unfolding Reads
  read_once from before bytes [] [] a b = refl
  read_once from before bytes [] (d ∷ ds) a b = absurd (a d b.0)
  read_once from before bytes (e ∷ es) [] a b = absurd (b e a.0)
  read_once from before bytes (e ∷ es) (d ∷ ds) a b = let same = same_record from before bytes e d a.0 b.0 in
      ap (λ (x : Entry). x ∷ es) same
      ∙ ap (λ (l : List Entry). d ∷ l) (read_once (end_of d) (before ++ d ∷ []) (drop (change_size d.change) bytes) es ds
      (subst (λ (x : Entry). Reads relations (end_of x) (before ++ x ∷ []) (drop (change_size x.change) bytes) es) same a.1) b.1)
