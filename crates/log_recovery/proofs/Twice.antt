-- Redo after redo, or after a part of it.
use Rattle.std.proofs.Common.{◌≡◌, ℕ, Bool, true, false, List, [], ◌∷◌, ◌++◌, length, map, Option, Some, sym, refl, ap, ◌∙◌, subst, ⊎_elim, arith}
use Rattle.std.specs.Option.{is_some}
use Rattle.std.proofs.lemmas.Option.{same_Some}
use mathlib.Core.Option.{some}
use lib.ListN.{get_elem?}
use Rattle.block_tag.specs.declared.tag.Tag.{Tag}
use Rattle.block_tag.specs.Names.{names_block, packed_tag, tag_eq}
use Rattle.pin_core.specs.State.{Page}
use Rattle.history_core.specs.Log.{Entry, Change, image, ranges, resize, is_image, AreImages, AreOfPages, IsEntryOf, tag_in, page_after}
use Rattle.history_core.specs.Unentered.{IsEntered}
use Rattle.history_core.proofs.Crashes.{same_after, entry_or_none}
use Rattle.history_core.proofs.Logs.{after_absent, images_of_pages}
use Rattle.history_core.proofs.Histories.{at_last}
use Rattle.grid.proofs.Lists.{at_longer}
use Rattle.segment_store.specs.Contents.{Marks, Pages}
use Rattle.segment_store.specs.Lanes.{lane_at, page_in}
use Rattle.log_recovery.specs.Redo.{IsEnteredBlock, IsRedone, AreRedone, AreRedoneBut, AreFirstOf, Redoes, FailsAt}
use Rattle.log_recovery.specs.Laws.{AgreeElsewhere, IsRedoneOnce, IsCompleted, ArePartsOf, PagesAreSettled}
use Rattle.log_recovery.proofs.ReadLogs.{is_log}

pub either_way : (b : Bool) {A : Type 0} → (b ≡ true → A) → (b ≡ false → A) → A
either_way true x y = x refl
either_way false x y = y refl

pub same_tag : (a b : Tag) → tag_eq a b ≡ true → a ≡ b
same_tag a b e = grind arith

-- where a block has an entry, which is its whole page, its page after them is the same, whatever it was before
pub settled : PagesAreSettled
settled es images tag (k, e, of) x y = by_change e.change refl (images k e of.there) of.of
  where
    by_change : (c : Change) → e.change ≡ c → is_image c ≡ true → tag_in c ≡ Some tag → page_after tag es x ≡ page_after tag es y
    by_change (image t p) is whole same = same_after tag k es e p x y of.there (is ∙ ap (λ (z : ℕ). image z p) (same_Some t tag same))
    by_change (ranges t spans) is whole same = absurd (cc)
    by_change (resize fork old new) is whole same = absurd (cc)

-- pages that differ only where a block has an entry
pub after_agree : (es : List Entry) (tag : ℕ) (x y : Option Page) → AreImages es → ((IsEntered es tag → ⊥) → x ≡ y) → page_after tag es x ≡ page_after tag es y
after_agree es tag x y images agree = ⊎_elim
    (λ (t : IsEntered es tag). settled es images tag t x y)
    (λ (none : (k : ℕ) (e : Entry) → IsEntryOf es tag k e → ⊥). ap (page_after tag es) (agree (λ t. none t.0 t.1 t.2)))
    (entry_or_none es tag)

-- redo of a page after redo
pub after_twice : (es : List Entry) (tag : ℕ) (x : Option Page) → AreImages es → page_after tag es (page_after tag es x) ≡ page_after tag es x
after_twice es tag x images = after_agree es tag (page_after tag es x) x images (λ none. after_absent tag es x (images_of_pages es images) (λ k e of. none (k, e, of)))

pub redone_once : IsRedoneOnce
redone_once es valid images a b c m n o first second tag told = either_way (names_block tag)
    (λ named. (second.each tag).page told_still named ∙ ap (page_after (packed_tag tag) es) ((first.each tag).page told named) ∙ after_twice es (packed_tag tag) (page_in a tag) images ∙ sym ((first.each tag).page told named))
    (λ other. (second.each tag).other told_still other)
  where
    told_still : is_some (lane_at b tag) ≡ true
    told_still = (first.each tag).known ∙ told

pub completed : IsCompleted
completed es valid images a b c m n o agree redone = record {
  count = (redone.count.0 ∙ agree.count.0, redone.count.1 ∙ agree.count.1);
  each = λ tag. let r = redone.each tag in record {
    known = r.known ∙ agree.known tag;
    page = λ told named. r.page (agree.known tag ∙ told) named ∙ after_agree es (packed_tag tag) (page_in b tag) (page_in a tag) images (λ none. agree.pages tag told (λ t. none t.1));
    other = λ told other. r.other (agree.known tag ∙ told) other ∙ agree.pages tag told (λ t. absurd (let named = t.0 in cc));
    written = λ told entered. r.written (agree.known tag ∙ told) entered;
    kept = λ told none. r.kept (agree.known tag ∙ told) none ∙ agree.marks tag told none;
  };
}

-- an entry among the first is among all
pub entered_longer : (es rest : List Entry) (tag : Tag) → IsEnteredBlock es tag → IsEnteredBlock (es ++ rest) tag
entered_longer es rest tag (named, (k, e, of)) = (named, (k, e, record { there = at_longer es rest k e of.there; of = of.of }))

module _ (all es rest : List Entry) (is : all ≡ es ++ rest) (valid : AreOfPages all) where
  not_among : (tag : Tag) → (IsEnteredBlock all tag → ⊥) → IsEnteredBlock es tag → ⊥
  not_among tag none t = none (subst (λ (l : List Entry). IsEnteredBlock l tag) (sym is) (entered_longer es rest tag t))

  first_valid : AreOfPages es
  first_valid k e at = valid k e (subst (λ (l : List Entry). get_elem? l k ≡ some e) (sym is) (at_longer es rest k e at))

  module _ (a b : List (Option Pages)) (m n : List Marks) where
    same_page : (tag : Tag) → IsRedone es a b m n tag → is_some (lane_at a tag) ≡ true → (IsEnteredBlock all tag → ⊥) → page_in b tag ≡ page_in a tag
    same_page tag r told none = either_way (names_block tag)
        (λ named. r.page told named ∙ after_absent (packed_tag tag) es (page_in a tag) first_valid (λ k e of. not_among tag none (named, (k, e, of))))
        (λ other. r.other told other)

    -- redo of the first entries
    agree_first : AreRedone es a b m n → AgreeElsewhere all a b m n
    agree_first redone = record {
      count = redone.count;
      known = λ tag. (redone.each tag).known;
      pages = λ tag told none. same_page tag (redone.each tag) told none;
      marks = λ tag told none. (redone.each tag).kept told (not_among tag none);
    }

    -- and so but for the block of an entry
    agree_but : (torn : Tag) → IsEnteredBlock all torn → AreRedoneBut es a b m n torn → AgreeElsewhere all a b m n
    agree_but torn entered redone = record {
      count = redone.count;
      known = λ tag. either_way (tag_eq tag torn) (λ same. subst (λ (t : Tag). is_some (lane_at b t) ≡ is_some (lane_at a t)) (sym (same_tag tag torn same)) redone.known) (λ other. (redone.each tag other).known);
      pages = λ tag told none. same_page tag (redone.each tag (other_tag tag none)) told none;
      marks = λ tag told none. (redone.each tag (other_tag tag none)).kept told (not_among tag none);
    }
      where
        other_tag : (tag : Tag) → (IsEnteredBlock all tag → ⊥) → tag_eq tag torn ≡ false
        other_tag tag none = either_way (tag_eq tag torn) (λ same. absurd (none (subst (IsEnteredBlock all) (sym (same_tag tag torn same)) entered))) (λ other. other)

-- the last entry
entered_last : (es rest all : List Entry) (e : Entry) (tag : Tag) → all ≡ (es ++ e ∷ []) ++ rest → names_block tag ≡ true → tag_in e.change ≡ Some (packed_tag tag) → IsEnteredBlock all tag
entered_last es rest all e tag is named of = subst (λ (l : List Entry). IsEnteredBlock l tag) (sym is) (entered_longer (es ++ e ∷ []) rest tag (named, (length es, e, record { there = at_last es e; of = of })))

pub parts : {L : Type 0} (contents : L → Option Pages) (failed : L → Marks) → ArePartsOf contents failed
parts contents failed relations catalogue bytes log is old new part = ⊎_elim
    (λ (x : Redoes contents failed part.entries old new). agree_first log.entries part.entries more.0 more.1 valid (map contents old) (map contents new) (map failed old) (map failed new) x)
    (λ (x : FailsAt contents failed (λ es. AreFirstOf relations bytes es) part.entries old new).
    let next = x.next.1 catalogue log is in
    agree_but log.entries part.entries more.0 more.1 valid (map contents old) (map contents new) (map failed old) (map failed new) x.tag (entered_last part.entries next.0 log.entries x.entry x.tag next.1 x.named x.of) x.lanes)
    part.lanes
  where
    more : (rest : List Entry) × (log.entries ≡ part.entries ++ rest)
    more = part.first.1 catalogue log is

    valid : AreOfPages log.entries
    valid = images_of_pages log.entries (is_log relations bytes log is).1
