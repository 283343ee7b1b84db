-- Segments whose blocks are put one segment after another.
use Rattle.std.proofs.Common.{◌≡◌, ℕ, ◌+◌, ◌-◌, ◌^◌, ◌<◌, List, [], ◌∷◌, ◌++◌, length, get_or, set, take, drop, Option, sym, ◌∙◌, ap, ap₂, arith, append_assoc, add-one}
use Rattle.std.proofs.Math.Seq.{drop-cons}
use Rattle.std.proofs.lemmas.List.{drop-drop, drop-set-lt, take-append-drop, take_more_set}
use Rattle.block_tag.specs.declared.tag.Fork.{Fork}
use Rattle.segment_store.specs.Contents.{Pages}
use Rattle.segment_store.specs.Relation.{segment_pages, first_blocks}
use Rattle.segment_store.specs.Restored.{given_back, pages_in, restored, with_pages}
use Rattle.segment_store.proofs.GivenBack.{drop-pages_in, take-pages_in}
use Rattle.segment_store.proofs.Segments.{counted_blocks, restored_none, splits}

-- the first segment and the others, where pages are put from a block on
pub record PutsFirst (fork : Fork) (lanes : List (Option Pages)) (seg_blocks : ℕ) (bytes : List ℕ) (segments : List (List ℕ)) (first left count : ℕ) : Type 0 where
  pub full : count ≡ seg_blocks → restored seg_blocks (bytes ∷ segments) (pages_in fork lanes first (take left (segment_pages seg_blocks (bytes ∷ segments))))
      ≡ with_pages (pages_in fork lanes first (first_blocks bytes count)) bytes ∷ restored seg_blocks segments (pages_in fork lanes (first + count) (take (left - count) (segment_pages seg_blocks segments)))
  pub short : count < seg_blocks → restored seg_blocks (bytes ∷ segments) (pages_in fork lanes first (take left (segment_pages seg_blocks (bytes ∷ segments))))
      ≡ with_pages (pages_in fork lanes first (first_blocks bytes count)) bytes ∷ segments

pub puts_first : (fork : Fork) (lanes : List (Option Pages)) (seg_blocks : ℕ) (bytes : List ℕ) (segments : List (List ℕ)) (first left count : ℕ) → count ≡ counted_blocks seg_blocks bytes left
    → PutsFirst fork lanes seg_blocks bytes segments first left count
puts_first fork lanes seg_blocks bytes segments first left count is =
    let all = take left (segment_pages seg_blocks (bytes ∷ segments)) in
    let split = splits seg_blocks bytes segments left in
    let prefix : with_pages (take seg_blocks (pages_in fork lanes first all)) bytes ≡ with_pages (pages_in fork lanes first (first_blocks bytes count)) bytes =
    ap (λ (pages : List (List ℕ)). with_pages pages bytes) (take-pages_in fork lanes first seg_blocks all)
    ∙ ap (λ (pages : List (List ℕ)). with_pages (pages_in fork lanes first pages) bytes) split.prefix
    ∙ ap (λ (n : ℕ). with_pages (pages_in fork lanes first (first_blocks bytes n)) bytes) (sym is) in
    let behind = ap (λ (pages : List (List ℕ)). restored seg_blocks segments pages) (drop-pages_in fork lanes first seg_blocks all) in
    record {
      full = λ e. ap₂ (λ (l : List ℕ) (ls : List (List ℕ)). l ∷ ls) prefix
          (behind ∙ ap (λ (pages : List (List ℕ)). restored seg_blocks segments (pages_in fork lanes (first + seg_blocks) pages)) (split.full (sym is ∙ e))
          ∙ ap (λ (n : ℕ). restored seg_blocks segments (pages_in fork lanes (first + n) (take (left - n) (segment_pages seg_blocks segments)))) (sym e));
      short = λ below. ap₂ (λ (l : List ℕ) (ls : List (List ℕ)). l ∷ ls) prefix
          (behind ∙ ap (λ (pages : List (List ℕ)). restored seg_blocks segments (pages_in fork lanes (first + seg_blocks) pages)) (split.short (omega arith)) ∙ restored_none seg_blocks segments);
    }

-- the first segments are done; the others are as they were, and their first block has this number
pub record IsUnderway (fork : Fork) (lanes : List (Option Pages)) (seg_blocks : ℕ) (old now : List (List ℕ)) (index first : ℕ) : Type 0 where
  pub done : given_back fork seg_blocks lanes old
      ≡ take index now ++ restored seg_blocks (drop index old) (pages_in fork lanes first (take (2 ^ 32 - 1 - first) (segment_pages seg_blocks (drop index old))))
  pub others : drop index now ≡ drop index old

module _ (fork : Fork) (lanes : List (Option Pages)) (seg_blocks : ℕ) (old now : List (List ℕ)) (index first count : ℕ) (bytes written : List ℕ) where
  -- the next segment, which has so many counted blocks, was written
  pub record WritesNext : Type 0 where
    pub within : index < length now
    pub bytes_are : bytes ≡ get_or now index []
    pub count_is : count ≡ counted_blocks seg_blocks bytes (2 ^ 32 - 1 - first)
    pub written_is : written ≡ with_pages (pages_in fork lanes first (first_blocks bytes count)) bytes

  behind : WritesNext → IsUnderway fork lanes seg_blocks old now index first → drop (index + 1) now ≡ drop (index + 1) old
  behind writes way = sym (drop-drop 1 index now) ∙ ap (λ (l : List (List ℕ)). drop 1 l) way.others ∙ drop-drop 1 index old

  next_is : WritesNext → IsUnderway fork lanes seg_blocks old now index first → drop index old ≡ bytes ∷ drop (index + 1) old
  next_is writes way = sym way.others ∙ drop-cons now index [] writes.within
      ∙ ap₂ (λ (l : List ℕ) (n : ℕ). l ∷ drop n now) (sym writes.bytes_are) (sym (add-one index))
      ∙ ap (λ (l : List (List ℕ)). bytes ∷ l) (behind writes way)

  -- the segments that are done, with this one
  pub more_done : (rest : List (List ℕ)) → index < length now → take index now ++ (written ∷ rest) ≡ take (index + 1) (set now index written) ++ rest
  more_done rest within = sym (append_assoc (take index now) (written ∷ []) rest) ∙ ap (λ (l : List (List ℕ)). l ++ rest) (sym (take_more_set now index written within))

  untouched : drop (index + 1) (set now index written) ≡ drop (index + 1) now
  untouched = drop-set-lt (index + 1) now index written (omega arith)

  done_is : WritesNext → IsUnderway fork lanes seg_blocks old now index first
      → given_back fork seg_blocks lanes old ≡ take index now ++ restored seg_blocks (bytes ∷ drop (index + 1) old) (pages_in fork lanes first (take (2 ^ 32 - 1 - first) (segment_pages seg_blocks (bytes ∷ drop (index + 1) old))))
  done_is writes way = way.done
      ∙ ap (λ (l : List (List ℕ)). take index now ++ restored seg_blocks l (pages_in fork lanes first (take (2 ^ 32 - 1 - first) (segment_pages seg_blocks l)))) (next_is writes way)

  -- if the segment wasn't full, all is done
  pub last_put : WritesNext → IsUnderway fork lanes seg_blocks old now index first → count < seg_blocks → set now index written ≡ given_back fork seg_blocks lanes old
  last_put writes way short =
      let puts = puts_first fork lanes seg_blocks bytes (drop (index + 1) old) first (2 ^ 32 - 1 - first) count writes.count_is in
      sym (done_is writes way
      ∙ ap (λ (l : List (List ℕ)). take index now ++ l) (puts.short short)
      ∙ ap (λ (l : List ℕ). take index now ++ (l ∷ drop (index + 1) old)) (sym writes.written_is)
      ∙ more_done (drop (index + 1) old) writes.within
      ∙ ap (λ (l : List (List ℕ)). take (index + 1) (set now index written) ++ l) (sym (untouched ∙ behind writes way))
      ∙ take-append-drop (index + 1) (set now index written))

  -- if it was full, the others are left
  pub next_put : WritesNext → IsUnderway fork lanes seg_blocks old now index first → count ≡ seg_blocks → IsUnderway fork lanes seg_blocks old (set now index written) (index + 1) (first + count)
  next_put writes way full =
      let puts = puts_first fork lanes seg_blocks bytes (drop (index + 1) old) first (2 ^ 32 - 1 - first) count writes.count_is in
      let left : 2 ^ 32 - 1 - first - count ≡ 2 ^ 32 - 1 - (first + count) = omega arith in
      let rest = restored seg_blocks (drop (index + 1) old) (pages_in fork lanes (first + count) (take (2 ^ 32 - 1 - first - count) (segment_pages seg_blocks (drop (index + 1) old)))) in
      record {
        done = done_is writes way
            ∙ ap (λ (l : List (List ℕ)). take index now ++ l) (puts.full full)
            ∙ ap (λ (l : List ℕ). take index now ++ (l ∷ rest)) (sym writes.written_is)
            ∙ more_done rest writes.within
            ∙ ap (λ (n : ℕ). take (index + 1) (set now index written) ++ restored seg_blocks (drop (index + 1) old) (pages_in fork lanes (first + count) (take n (segment_pages seg_blocks (drop (index + 1) old))))) left;
        others = untouched ∙ behind writes way;
      }
