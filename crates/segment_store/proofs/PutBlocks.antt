-- A segment whose blocks are put one after another.
use Rattle.std.proofs.Common.{◌≡◌, ℕ, ◌+◌, ◌-◌, ◌*◌, ◌≤◌, List, [], ◌∷◌, ◌++◌, length, take, drop, Option, Some, None, unwrap_or, sym, ◌∙◌, ap, ap₂, arith, append_assoc, append-nil}
use Rattle.std.proofs.Math.Seq.{take-append_seam, drop-append_seam}
use Rattle.std.proofs.lemmas.List.{length-append, length-drop, drop-drop}
use Rattle.std.proofs.lemmas.List.Folds.{concat-append}
use Rattle.std.specs.List.{concat}
use borrow.Rule.Slice.PartMut.{put_mid}
use Rattle.block_tag.specs.declared.tag.Fork.{Fork}
use Rattle.segment_store.specs.Contents.{Pages}
use Rattle.segment_store.specs.Lanes.{page_in, tag_at}
use Rattle.segment_store.specs.Relation.{block_at, first_blocks}
use Rattle.segment_store.specs.Restored.{pages_in, with_pages}
use Rattle.segment_store.proofs.GivenBack.{length-pages_in, pages_in-append}
use Rattle.segment_store.proofs.Segments.{block_then, first_more, length-first}

pub take_prefix : {X : Type 0} (prefix back : List X) (n : ℕ) → length prefix ≡ n → take n (prefix ++ back) ≡ prefix
take_prefix prefix back n size = ap (λ (k : ℕ). take k (prefix ++ back)) (sym size) ∙ take-append_seam prefix back

drop_prefix : (prefix back : List ℕ) (n : ℕ) → length prefix ≡ n → drop n (prefix ++ back) ≡ back
drop_prefix prefix back n size = ap (λ (k : ℕ). drop k (prefix ++ back)) (sym size) ∙ drop-append_seam prefix back

put_is : (a k : ℕ) (all prefix back page : List ℕ) → take a all ≡ prefix → drop k (drop a all) ≡ back → prefix ++ (page ++ back) ≡ put_mid a k all page
put_is a k all prefix back page before behind = ap₂ (λ (x y : List ℕ). x ++ (page ++ y)) (sym before) (sym behind)

module _ (fork : Fork) (lanes : List (Option Pages)) (first : ℕ) (bytes : List ℕ) where
  -- the bytes once so many blocks were put
  abbrev pub bytes_at : ℕ → List ℕ
  bytes_at count = with_pages (pages_in fork lanes first (first_blocks bytes count)) bytes

  -- the blocks that were put, joined
  abbrev pub prefix_at : ℕ → List ℕ
  prefix_at count = concat (pages_in fork lanes first (first_blocks bytes count))

  length-pages_at : (count : ℕ) → length (pages_in fork lanes first (first_blocks bytes count)) ≡ count
  length-pages_at count = length-pages_in fork lanes first (first_blocks bytes count) ∙ length-first bytes count

  -- the bytes are what was put and what was there after it
  pub bytes_are : (count : ℕ) → bytes_at count ≡ prefix_at count ++ drop (8192 * count) bytes
  bytes_are count = ap (λ (n : ℕ). prefix_at count ++ drop (8192 * n) bytes) (length-pages_at count)

  -- the next block, as its lane has it or as it was
  abbrev pub next_page : ℕ → List ℕ
  next_page count = unwrap_or (page_in lanes (tag_at fork (first + count))) (block_at bytes count)

  prefix_more : (count : ℕ) → prefix_at (count + 1) ≡ prefix_at count ++ next_page count
  prefix_more count =
      ap (λ (blocks : List (List ℕ)). concat (pages_in fork lanes first blocks)) (first_more bytes count)
      ∙ ap (λ (pages : List (List ℕ)). concat pages) (pages_in-append fork lanes first (first_blocks bytes count) (block_at bytes count ∷ []))
      ∙ concat-append (pages_in fork lanes first (first_blocks bytes count)) (pages_in fork lanes (first + length (first_blocks bytes count)) (block_at bytes count ∷ []))
      ∙ ap (λ (n : ℕ). prefix_at count ++ (unwrap_or (page_in lanes (tag_at fork (first + n))) (block_at bytes count) ++ [])) (length-first bytes count)
      ∙ ap (λ (l : List ℕ). prefix_at count ++ l) (append-nil (next_page count))

  bytes_more : (count : ℕ) → bytes_at (count + 1) ≡ prefix_at count ++ (next_page count ++ drop (8192 * (count + 1)) bytes)
  bytes_more count =
      bytes_are (count + 1)
      ∙ ap (λ (l : List ℕ). l ++ drop (8192 * (count + 1)) bytes) (prefix_more count)
      ∙ append_assoc (prefix_at count) (next_page count) (drop (8192 * (count + 1)) bytes)

  -- a block that no lane has stays
  pub block_stays : (count : ℕ) → None ≡ page_in lanes (tag_at fork (first + count)) → bytes_at (count + 1) ≡ bytes_at count
  block_stays count none =
      bytes_more count
      ∙ ap (λ (o : Option (List ℕ)). prefix_at count ++ (unwrap_or o (block_at bytes count) ++ drop (8192 * (count + 1)) bytes)) (sym none)
      ∙ ap (λ (l : List ℕ). prefix_at count ++ l) (block_then bytes count)
      ∙ sym (bytes_are count)

  length-prefix : (count : ℕ) → length (bytes_at count) ≡ length bytes → 8192 * count ≤ length bytes → length (prefix_at count) ≡ 8192 * count
  length-prefix count same within =
      let whole : length (prefix_at count) + (length bytes - 8192 * count) ≡ length bytes =
      ap (λ (n : ℕ). length (prefix_at count) + n) (sym (length-drop (8192 * count) bytes))
      ∙ sym (length-append (prefix_at count) (drop (8192 * count) bytes)) ∙ ap (λ (l : List ℕ). length l) (sym (bytes_are count)) ∙ same in
      omega arith

  -- a block that its lane has is written at its place
  pub block_put : (count : ℕ) (page : List ℕ) → Some page ≡ page_in lanes (tag_at fork (first + count)) → length (bytes_at count) ≡ length bytes → 8192 * count + 8192 ≤ length bytes
      → bytes_at (count + 1) ≡ put_mid (8192 * count) 8192 (bytes_at count) page
  block_put count page some same within =
      let size : length (prefix_at count) ≡ 8192 * count = length-prefix count same (omega arith) in
      let written : next_page count ≡ page = ap (λ (o : Option (List ℕ)). unwrap_or o (block_at bytes count)) (sym some) in
      bytes_more count
      ∙ ap (λ (p : List ℕ). prefix_at count ++ (p ++ drop (8192 * (count + 1)) bytes)) written
      ∙ put_is (8192 * count) 8192 (bytes_at count) (prefix_at count) (drop (8192 * (count + 1)) bytes) page
      (ap (λ (l : List ℕ). take (8192 * count) l) (bytes_are count) ∙ take_prefix (prefix_at count) (drop (8192 * count) bytes) (8192 * count) size)
      (ap (λ (l : List ℕ). drop 8192 (drop (8192 * count) l)) (bytes_are count)
      ∙ ap (λ (l : List ℕ). drop 8192 l) (drop_prefix (prefix_at count) (drop (8192 * count) bytes) (8192 * count) size)
      ∙ drop-drop 8192 (8192 * count) bytes
      ∙ (let next : 8192 * count + 8192 ≡ 8192 * (count + 1) = omega arith in ap (λ (n : ℕ). drop n bytes) next))
