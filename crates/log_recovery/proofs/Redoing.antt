-- One write more, and the redo of entries that it continues.
use Rattle.std.proofs.Common.{◌≡◌, ◌≢◌, ◌⊎◌, inl, inr, ℕ, ◌+◌, ◌*◌, ◌%◌, ◌<◌, ◌^◌, Bool, true, false, ◌&&◌, cond, ne_eqb, List, [], ◌∷◌, ◌++◌, length, length-set, get_or, set, get_or-set_same, get_or-set_other, Option, Some, None, Result, Ok, Err, sym, refl, ap, ◌∙◌, subst, ⊎_elim, arith}
use Rattle.std.specs.Prelude.{◌==◌, IfSome, is_some}
use Rattle.std.specs.Option.{option_and_then}
use Rattle.std.proofs.lemmas.Bool.{and_parts, both_ways, cases_Bool, eqb-true}
use Rattle.std.proofs.lemmas.Option.{same_Some}
use mathlib.Core.Logic.{dite}
use mathlib.Core.Option.{some-ne-none}
use native.Mathlib.Decide.{ℕ_discrete}
use Rattle.block_tag.specs.declared.tag.Fork.{Fork}
use Rattle.block_tag.specs.declared.tag.Fork.TheVariants.{Main, Fsm, Vm, Init}
use Rattle.block_tag.specs.declared.tag.Tag.{Tag}
use Rattle.block_tag.specs.Names.{fork_number, lane_number, names_block, packed_tag, tag_eq}
use Rattle.segment_store.specs.Contents.{Marks, Pages, no_marks, with_page, AfterFailure, AfterWrite}
use Rattle.segment_store.specs.Lanes.{lane_at, mark_in, page_in, HoldTheirs}
use Rattle.pin_core.specs.State.{Page}
use Rattle.history_core.specs.Log.{Change, image, Entry, IsEntryOf, changed_page, end_of, page_after, tag_in}
use Rattle.history_core.proofs.Logs.{cell_longer, cell_none, changed_image, entry_longer}
use Rattle.grid.proofs.Lists.{at_last, at_longer}
use Rattle.log_recovery.specs.Redo.{AreRedone, AreRedoneBut, IsEnteredBlock, IsRedone, WritesTo}

-- what a lane has at a tag
abbrev page_at : Option Pages → Tag → Option (List ℕ)
page_at lane t = option_and_then (λ pages. pages t) lane

-- ---- tags

-- tags that are one have one relation, fork and block
record AreOne (t u : Tag) : Type 0 where
  rel : t.rel.0 ≡ u.rel.0
  fork : fork_number t.fork ≡ fork_number u.fork
  block : t.block ≡ u.block

one_tag : (t u : Tag) → tag_eq t u ≡ true → AreOne t u
one_tag t u e =
    let p = and_parts (t.rel.0 == u.rel.0) (fork_number t.fork == fork_number u.fork && t.block == u.block) e in
    let q = and_parts (fork_number t.fork == fork_number u.fork) (t.block == u.block) p.1 in record {
      rel = eqb-true t.rel.0 u.rel.0 p.0;
      fork = eqb-true (fork_number t.fork) (fork_number u.fork) q.0;
      block = eqb-true t.block u.block q.1;
    }

pub same_word : (t u : Tag) → tag_eq t u ≡ true → packed_tag t ≡ packed_tag u
same_word t u e = let o = one_tag t u e in let a = o.rel in let b = o.fork in let c = o.block in
    ap (λ (n : ℕ). n * 2 ^ 40 + fork_number t.fork * 2 ^ 32 + t.block) a
    ∙ ap (λ (n : ℕ). u.rel.0 * 2 ^ 40 + n * 2 ^ 32 + t.block) b
    ∙ ap (λ (n : ℕ). u.rel.0 * 2 ^ 40 + fork_number u.fork * 2 ^ 32 + n) c

same_lane : (t u : Tag) (k : ℕ) → tag_eq t u ≡ true → lane_number t k ≡ lane_number u k
same_lane t u k e = let o = one_tag t u e in let a = o.rel in let b = o.fork in let c = o.block in
    ap (λ (n : ℕ). n % k) (omega (arith, a, b, c))

same_named : (t u : Tag) → tag_eq t u ≡ true → names_block u ≡ true → names_block t ≡ true
same_named t u e named = let o = one_tag t u e in let a = o.rel in let c = o.block in grind (arith, a, c, named)

pub tag_is : (t : Tag) → tag_eq t t ≡ true
tag_is t = grind arith

fork_small : (f : Fork) → fork_number f < 4
fork_small Main = omega arith
fork_small Fsm = omega arith
fork_small Vm = omega arith
fork_small Init = omega arith

-- tags of blocks that are two have two numbers
pub packed_apart : (t u : Tag) → names_block t ≡ true → names_block u ≡ true → tag_eq t u ≡ false → packed_tag t ≢ packed_tag u
packed_apart t u a b e same = let f = fork_small t.fork in let g = fork_small u.fork in grind (arith, a, b, e, same, f, g)

-- ---- a lane after a write

-- What a write that went well leaves of a lane
record Puts (tag : Tag) (page : List ℕ) (lane : Option Pages) (marks : Marks) (after : Option Pages) (after_marks : Marks) : Type 0 where
  known : is_some after ≡ is_some lane
  here : (t : Tag) → tag_eq t tag ≡ true → is_some lane ≡ true → (page_at after t ≡ Some page) × (after_marks t ≡ false)
  beside : (t : Tag) → tag_eq t tag ≡ false → is_some lane ≡ true → (page_at after t ≡ page_at lane t) × (after_marks t ≡ marks t)

puts : {E : Type 0} (tag : Tag) (page : List ℕ) (lane : Option Pages) (marks : Marks) (after : Option Pages) (after_marks : Marks) (r : Result Unit E) (x : Unit {0}) → r ≡ Ok x → AfterWrite tag page lane marks after after_marks r → Puts tag page lane marks after after_marks
puts tag page None marks after after_marks r x ok h = record {
  known = ap is_some h;
  here = λ t e is. absurd (both_ways false refl is);
  beside = λ t e is. absurd (both_ways false refl is);
}
puts tag page (Some pages) marks after after_marks (Err y) x ok h = absurd (cc)
puts tag page (Some pages) marks after after_marks (Ok y) x ok h = record {
  known = ap is_some h.0;
  here = λ t e is. (ap (λ (l : Option Pages). page_at l t) h.0 ∙ ap (λ (b : Bool). cond b (Some page) (pages t)) e, ap (λ (m : Marks). m t) h.1 ∙ ap (λ (b : Bool). cond b false (marks t)) e);
  beside = λ t e is. (ap (λ (l : Option Pages). page_at l t) h.0 ∙ ap (λ (b : Bool). cond b (Some page) (pages t)) e, ap (λ (m : Marks). m t) h.1 ∙ ap (λ (b : Bool). cond b false (marks t)) e);
}

-- What one that failed leaves: all as it was
record Stays (lane : Option Pages) (marks : Marks) (after : Option Pages) (after_marks : Marks) : Type 0 where
  lane_is : after ≡ lane
  marks_are : is_some lane ≡ true → after_marks ≡ marks

-- or the block any, and marked
record Tears (tag : Tag) (lane : Option Pages) (marks : Marks) (after : Option Pages) (after_marks : Marks) : Type 0 where
  known : is_some after ≡ is_some lane
  here : (t : Tag) → tag_eq t tag ≡ true → is_some lane ≡ true → after_marks t ≡ true
  beside : (t : Tag) → tag_eq t tag ≡ false → is_some lane ≡ true → (page_at after t ≡ page_at lane t) × (after_marks t ≡ marks t)

failure : (tag : Tag) (pages : Pages) (marks : Marks) (after : Pages) (after_marks : Marks) → AfterFailure tag pages marks after after_marks → Stays (Some pages) marks (Some after) after_marks ⊎ Tears tag (Some pages) marks (Some after) after_marks
failure tag pages marks after after_marks (inl (torn, marked)) = inr (record {
  known = refl;
  here = λ t e is. ap (λ (m : Marks). m t) marked ∙ ap (λ (b : Bool). cond b true (marks t)) e;
  beside = λ t e is. (ap (λ (p : Pages). p t) torn.is ∙ ap (λ (b : Bool). cond b (Some torn.left) (pages t)) e, ap (λ (m : Marks). m t) marked ∙ ap (λ (b : Bool). cond b true (marks t)) e);
})
failure tag pages marks after after_marks (inr h) = inl (record {
  lane_is = ap (λ (p : Pages). Some p) h.pages_stay;
  marks_are = λ is. h.marks_stay;
})

fails : {E : Type 0} (tag : Tag) (page : List ℕ) (lane : Option Pages) (marks : Marks) (after : Option Pages) (after_marks : Marks) (r : Result Unit E) (x : E) → r ≡ Err x → AfterWrite tag page lane marks after after_marks r → Stays lane marks after after_marks ⊎ Tears tag lane marks after after_marks
fails tag page None marks after after_marks r x err h = inl (record { lane_is = h; marks_are = λ is. absurd (both_ways false refl is) })
fails tag page (Some pages) marks after after_marks (Ok y) x err h = absurd (cc)
fails tag page (Some pages) marks None after_marks (Err y) x err h = absurd h
fails tag page (Some pages) marks (Some left) after_marks (Err y) x err h = failure tag pages marks left after_marks h

-- ---- the lanes after it

-- What stays the same at a tag whose block isn't written
record Beside (a b : List (Option Pages)) (m n : List Marks) (t : Tag) : Type 0 where
  known : is_some (lane_at b t) ≡ is_some (lane_at a t)
  page : is_some (lane_at a t) ≡ true → page_in b t ≡ page_in a t
  mark : is_some (lane_at a t) ≡ true → mark_in n t ≡ mark_in m t

-- What a write that went well leaves at a tag
record PutAt (tag : Tag) (page : List ℕ) (a b : List (Option Pages)) (m n : List Marks) (t : Tag) : Type 0 where
  known : is_some (lane_at b t) ≡ is_some (lane_at a t)
  here : tag_eq t tag ≡ true → is_some (lane_at a t) ≡ true → (page_in b t ≡ Some page) × (mark_in n t ≡ false)
  beside : tag_eq t tag ≡ false → Beside a b m n t

-- What one that failed leaves there
record TornAt (tag : Tag) (a b : List (Option Pages)) (m n : List Marks) (t : Tag) : Type 0 where
  known : is_some (lane_at b t) ≡ is_some (lane_at a t)
  here : tag_eq t tag ≡ true → is_some (lane_at a t) ≡ true → mark_in n t ≡ true
  beside : tag_eq t tag ≡ false → Beside a b m n t

module _ (tag : Tag) (a b : List (Option Pages)) (m n : List Marks) (after : Option Pages) (after_marks : Marks) (some : 0 < length a) (both : length m ≡ length a)
    (contents : b ≡ set a (lane_number tag (length a)) after) (failed : n ≡ set m (lane_number tag (length m)) after_marks) where
  count : (length b ≡ length a) × (length n ≡ length m)
  count = (
    ap (λ (l : List (Option Pages)). length l) contents ∙ length-set a (lane_number tag (length a)) after,
    ap (λ (l : List Marks). length l) failed ∙ length-set m (lane_number tag (length m)) after_marks,
  )

  within : (t : Tag) → lane_number t (length a) < length a
  within t = omega (arith, some)

  lane_is : (t : Tag) → lane_at b t ≡ get_or (set a (lane_number tag (length a)) after) (lane_number t (length a)) None
  lane_is t = ap (λ (k : ℕ). get_or b (lane_number t k) None) count.0 ∙ ap (λ (l : List (Option Pages)). get_or l (lane_number t (length a)) None) contents

  mark_is : (t : Tag) → mark_in n t ≡ get_or (set m (lane_number tag (length m)) after_marks) (lane_number t (length m)) no_marks t
  mark_is t = ap (λ (k : ℕ). get_or n (lane_number t k) no_marks t) count.1 ∙ ap (λ (l : List Marks). get_or l (lane_number t (length m)) no_marks t) failed

  -- the lane of a tag is that of the block
  abbrev IsThere : Tag → Type 0
  IsThere t = lane_number t (length a) ≡ lane_number tag (length a)

  in_marks : (t : Tag) → IsThere t → lane_number t (length m) ≡ lane_number tag (length m)
  in_marks t e = ap (lane_number t) both ∙ e ∙ sym (ap (lane_number tag) both)

  lane_here : (t : Tag) → IsThere t → lane_at b t ≡ after
  lane_here t e = lane_is t ∙ ap (λ (k : ℕ). get_or (set a (lane_number tag (length a)) after) k None) e ∙ get_or-set_same a (lane_number tag (length a)) after None (within tag)

  lane_was : (t : Tag) → IsThere t → lane_at a t ≡ lane_at a tag
  lane_was t e = ap (λ (k : ℕ). get_or a k None) e

  mark_here : (t : Tag) → IsThere t → mark_in n t ≡ after_marks t
  mark_here t e = mark_is t ∙ ap (λ (k : ℕ). get_or (set m (lane_number tag (length m)) after_marks) k no_marks t) (in_marks t e)
      ∙ ap (λ (f : Marks). f t) (get_or-set_same m (lane_number tag (length m)) after_marks no_marks (subst (λ (k : ℕ). lane_number tag k < k) (sym both) (within tag)))

  mark_was : (t : Tag) → IsThere t → mark_in m t ≡ get_or m (lane_number tag (length m)) no_marks t
  mark_was t e = ap (λ (k : ℕ). get_or m k no_marks t) (in_marks t e)

  beside_else : (t : Tag) → (IsThere t → ⊥) → Beside a b m n t
  beside_else t o = let lane = lane_is t ∙ get_or-set_other a (lane_number tag (length a)) (lane_number t (length a)) after None o in record {
    known = ap (λ (l : Option Pages). is_some l) lane;
    page = λ is. ap (λ (l : Option Pages). page_at l t) lane;
    mark = λ is. mark_is t ∙ ap (λ (f : Marks). f t) (get_or-set_other m (lane_number tag (length m)) (lane_number t (length m)) after_marks no_marks
        (λ e. o (sym (ap (lane_number t) both) ∙ e ∙ ap (lane_number tag) both)));
  }

  -- either lane
  by_lane : (A : Type 0) (t : Tag) → (IsThere t → A) → ((IsThere t → ⊥) → A) → A
  by_lane A t x y = dite (ℕ_discrete (lane_number t (length a)) (lane_number tag (length a))) x y

  known_there : (t : Tag) → IsThere t → is_some (lane_at a t) ≡ true → is_some (lane_at a tag) ≡ true
  known_there t e known = ap (λ (l : Option Pages). is_some l) (sym (lane_was t e)) ∙ known

  known_here : (t : Tag) → IsThere t → is_some after ≡ is_some (lane_at a tag) → is_some (lane_at b t) ≡ is_some (lane_at a t)
  known_here t e known = ap (λ (l : Option Pages). is_some l) (lane_here t e) ∙ known ∙ ap (λ (l : Option Pages). is_some l) (sym (lane_was t e))

  -- the same pages and marks at a tag of the block's lane
  beside_here : (t : Tag) → IsThere t → is_some after ≡ is_some (lane_at a tag)
      → (is_some (lane_at a tag) ≡ true → (page_at after t ≡ page_at (lane_at a tag) t) × (after_marks t ≡ get_or m (lane_number tag (length m)) no_marks t)) → Beside a b m n t
  beside_here t e known same = record {
    known = known_here t e known;
    page = λ is. ap (λ (l : Option Pages). page_at l t) (lane_here t e) ∙ (same (known_there t e is)).0 ∙ ap (λ (l : Option Pages). page_at l t) (sym (lane_was t e));
    mark = λ is. mark_here t e ∙ (same (known_there t e is)).1 ∙ sym (mark_was t e);
  }

  put_at : (page : List ℕ) → Puts tag page (lane_at a tag) (get_or m (lane_number tag (length m)) no_marks) after after_marks → (t : Tag) → PutAt tag page a b m n t
  put_at page p t = by_lane (PutAt tag page a b m n t) t
      (λ e. record {
        known = known_here t e p.known;
        here = λ one is. let h = p.here t one (known_there t e is) in (ap (λ (l : Option Pages). page_at l t) (lane_here t e) ∙ h.0, mark_here t e ∙ h.1);
        beside = λ other. beside_here t e p.known (p.beside t other);
      })
      (λ o. let s = beside_else t o in record {
        known = s.known;
        here = λ one is. absurd (o (same_lane t tag (length a) one));
        beside = λ other. s;
      })

  tear_at : Tears tag (lane_at a tag) (get_or m (lane_number tag (length m)) no_marks) after after_marks → (t : Tag) → TornAt tag a b m n t
  tear_at p t = by_lane (TornAt tag a b m n t) t
      (λ e. record {
        known = known_here t e p.known;
        here = λ one is. mark_here t e ∙ p.here t one (known_there t e is);
        beside = λ other. beside_here t e p.known (p.beside t other);
      })
      (λ o. let s = beside_else t o in record {
        known = s.known;
        here = λ one is. absurd (o (same_lane t tag (length a) one));
        beside = λ other. s;
      })

  stay_at : Stays (lane_at a tag) (get_or m (lane_number tag (length m)) no_marks) after after_marks → (t : Tag) → Beside a b m n t
  stay_at p t = by_lane (Beside a b m n t) t
      (λ e. beside_here t e (ap (λ (l : Option Pages). is_some l) p.lane_is) (λ is. (ap (λ (l : Option Pages). page_at l t) p.lane_is, ap (λ (f : Marks). f t) (p.marks_are is))))
      (λ o. beside_else t o)

-- ---- redo

-- redo of no entries
pub redone_none : (a : List (Option Pages)) (m : List Marks) → AreRedone [] a a m m
redone_none a m = record {
  count = (refl, refl);
  each = λ t. record {
    known = refl;
    page = λ known named. sym (cell_none (λ w. page_in a t) (packed_tag t));
    other = λ known named. refl;
    written = λ known x. absurd (some-ne-none x.1.1 (sym x.1.2.there));
    kept = λ known none. refl;
  };
}

-- an entry of the block of a tag is among the first ones, or is the last
entered_longer : (es : List Entry) (e : Entry) (t : Tag) → IsEnteredBlock (es ++ e ∷ []) t → IsEnteredBlock es t ⊎ (tag_in e.change ≡ Some (packed_tag t))
entered_longer es e t (named, (k, x, of)) = ⊎_elim (λ (o : IsEntryOf es (packed_tag t) k x). inl (named, (k, x, o))) (λ (o : (e ≡ x) × (tag_in e.change ≡ Some (packed_tag t))). inr o.1) (entry_longer es e (packed_tag t) k x of)

entered_before : (es : List Entry) (e : Entry) (t : Tag) → IsEnteredBlock es t → IsEnteredBlock (es ++ e ∷ []) t
entered_before es e t (named, (k, x, of)) = (named, (k, x, record { there = at_longer es (e ∷ []) k x of.there; of = of.of }))

entered_last : (es : List Entry) (e : Entry) (t : Tag) → names_block t ≡ true → tag_in e.change ≡ Some (packed_tag t) → IsEnteredBlock (es ++ e ∷ []) t
entered_last es e t named of = (named, (length es, e, record { there = at_last es e; of = of }))

-- the page of a block after one entry more, of another block
changed_apart : (w t end : ℕ) (page : Page) (p : Option Page) → t ≢ w → changed_page (image w page) end t p ≡ p
unfolding changed_page
changed_apart w t end page p apart = ap (λ (b : Bool). cond b (Some page) p) (ne_eqb t w apart)

after_image : (es : List Entry) (e : Entry) (w t : ℕ) (page : Page) (p : Option Page) → e.change ≡ image w page → page_after t (es ++ e ∷ []) p ≡ changed_page (image w page) (end_of e) t (page_after t es p)
after_image es e w t page p is = cell_longer (λ n. p) es e t ∙ ap (λ (c : Change). changed_page c (end_of e) t (page_after t es p)) is

module _ (es : List Entry) (e : Entry) (tag : Tag) (page : List ℕ) (a b c : List (Option Pages)) (m n o : List Marks) (named : names_block tag ≡ true) (is : e.change ≡ image (packed_tag tag) page) where
  tag_of_change : (t : Tag) → packed_tag t ≡ packed_tag tag → tag_in e.change ≡ Some (packed_tag t)
  tag_of_change t same = ap tag_in is ∙ ap (λ (w : ℕ). Some w) (sym same)

  -- an entry of another block
  other_change : (t : Tag) → names_block t ≡ true → tag_eq t tag ≡ false → tag_in e.change ≡ Some (packed_tag t) → ⊥
  other_change t named_t apart of = packed_apart t tag named_t named apart (same_Some (packed_tag t) (packed_tag tag) (sym of ∙ ap tag_in is))

  redone_here : (t : Tag) → tag_eq t tag ≡ true → IsRedone es a b m n t → PutAt tag page b c n o t → IsRedone (es ++ e ∷ []) a c m o t
  redone_here t one h p = let same = same_word t tag one in let named_t = same_named t tag one named in record {
    known = p.known ∙ h.known;
    page = λ known x. (p.here one (h.known ∙ known)).0 ∙ sym (after_image es e (packed_tag tag) (packed_tag t) page (page_in a t) is
        ∙ changed_image (packed_tag tag) (end_of e) (packed_tag t) page (page_after (packed_tag t) es (page_in a t)) same);
    other = λ known x. absurd (both_ways (names_block t) x named_t);
    written = λ known x. (p.here one (h.known ∙ known)).1;
    kept = λ known none. absurd (none (entered_last es e t named_t (tag_of_change t same)));
  }

  redone_else : (t : Tag) → tag_eq t tag ≡ false → IsRedone es a b m n t → Beside b c n o t → IsRedone (es ++ e ∷ []) a c m o t
  redone_else t apart h p = record {
    known = p.known ∙ h.known;
    page = λ known x. p.page (h.known ∙ known) ∙ h.page known x ∙ sym (after_image es e (packed_tag tag) (packed_tag t) page (page_in a t) is
        ∙ changed_apart (packed_tag tag) (packed_tag t) (end_of e) page (page_after (packed_tag t) es (page_in a t)) (packed_apart t tag x named apart));
    other = λ known x. p.page (h.known ∙ known) ∙ h.other known x;
    written = λ known x. p.mark (h.known ∙ known) ∙ h.written known (⊎_elim (λ (y : IsEnteredBlock es t). y) (λ (y : tag_in e.change ≡ Some (packed_tag t)). absurd (other_change t x.0 apart y)) (entered_longer es e t x));
    kept = λ known none. p.mark (h.known ∙ known) ∙ h.kept known (λ y. none (entered_before es e t y));
  }

  redone_put : (t : Tag) → IsRedone es a b m n t → PutAt tag page b c n o t → IsRedone (es ++ e ∷ []) a c m o t
  redone_put t h p = ⊎_elim (λ (one : tag_eq t tag ≡ true). redone_here t one h p) (λ (apart : tag_eq t tag ≡ false). redone_else t apart h (p.beside apart)) (cases_Bool (tag_eq t tag))

-- redo goes on beside a block that is written
redone_beside : (es : List Entry) (a b c : List (Option Pages)) (m n o : List Marks) (t : Tag) → IsRedone es a b m n t → Beside b c n o t → IsRedone es a c m o t
redone_beside es a b c m n o t h p = record {
  known = p.known ∙ h.known;
  page = λ known x. p.page (h.known ∙ known) ∙ h.page known x;
  other = λ known x. p.page (h.known ∙ known) ∙ h.other known x;
  written = λ known x. p.mark (h.known ∙ known) ∙ h.written known x;
  kept = λ known none. p.mark (h.known ∙ known) ∙ h.kept known none;
}

module _ (es : List Entry) (tag : Tag) (page : List ℕ) (a b c : List (Option Pages)) (m n o : List Marks) (some : 0 < length a) (both : length m ≡ length a) (h : AreRedone es a b m n) (named : names_block tag ≡ true) where
  some_now : 0 < length b
  some_now = subst (λ (k : ℕ). 0 < k) (sym h.count.0) some

  both_now : length n ≡ length b
  both_now = h.count.1 ∙ both ∙ sym h.count.0

  -- redo of one entry more, whose page was written
  pub redone_more : {E : Type 0} (e : Entry) (r : Result Unit E) (x : Unit {0}) → r ≡ Ok x → WritesTo tag page b c n o r → e.change ≡ image (packed_tag tag) page → AreRedone (es ++ e ∷ []) a c m o
  redone_more e r x ok w is = let k = count tag b c n o w.after w.after_marks some_now both_now w.contents w.failed in record {
    count = (k.0 ∙ h.count.0, k.1 ∙ h.count.1);
    each = λ t. redone_put es e tag page a b c m n o named is t (h.each t)
        (put_at tag b c n o w.after w.after_marks some_now both_now w.contents w.failed page (puts tag page (lane_at b tag) (get_or n (lane_number tag (length n)) no_marks) w.after w.after_marks r x ok w.lane) t);
  }

  torn_more : {E : Type 0} (r : Result Unit E) (w : WritesTo tag page b c n o r) → Tears tag (lane_at b tag) (get_or n (lane_number tag (length n)) no_marks) w.after w.after_marks → AreRedoneBut es a c m o tag
  torn_more r w p = let k = count tag b c n o w.after w.after_marks some_now both_now w.contents w.failed in
      let at : (t : Tag) → TornAt tag b c n o t = tear_at tag b c n o w.after w.after_marks some_now both_now w.contents w.failed p in record {
        count = (k.0 ∙ h.count.0, k.1 ∙ h.count.1);
        each = λ t apart. redone_beside es a b c m n o t (h.each t) ((at t).beside apart);
        known = (at tag).known ∙ (h.each tag).known;
        failed = λ known. (at tag).here (tag_is tag) ((h.each tag).known ∙ known);
      }

  stays_more : {E : Type 0} (r : Result Unit E) (w : WritesTo tag page b c n o r) → Stays (lane_at b tag) (get_or n (lane_number tag (length n)) no_marks) w.after w.after_marks → AreRedone es a c m o
  stays_more r w p = let k = count tag b c n o w.after w.after_marks some_now both_now w.contents w.failed in record {
    count = (k.0 ∙ h.count.0, k.1 ∙ h.count.1);
    each = λ t. redone_beside es a b c m n o t (h.each t) (stay_at tag b c n o w.after w.after_marks some_now both_now w.contents w.failed p t);
  }

  -- the write failed
  pub redone_torn : {E : Type 0} (r : Result Unit E) (x : E) → r ≡ Err x → WritesTo tag page b c n o r → AreRedone es a c m o ⊎ AreRedoneBut es a c m o tag
  redone_torn r x err w = ⊎_elim
      (λ (p : Stays (lane_at b tag) (get_or n (lane_number tag (length n)) no_marks) w.after w.after_marks). inl (stays_more r w p))
      (λ (p : Tears tag (lane_at b tag) (get_or n (lane_number tag (length n)) no_marks) w.after w.after_marks). inr (torn_more r w p))
      (fails tag page (lane_at b tag) (get_or n (lane_number tag (length n)) no_marks) w.after w.after_marks r x err w.lane)

-- ---- what lanes have is theirs

-- all that a lane has is of this number
abbrev HasTheirs : Option Pages → ℕ → ℕ → Type 0
HasTheirs lane k q = (t : Tag) → IfSome lane (λ pages. is_some (pages t) ≡ true → lane_number t k ≡ q)

with_theirs : (tag : Tag) (page : List ℕ) (pages : Pages) (k q : ℕ) → lane_number tag k ≡ q → HasTheirs (Some pages) k q → HasTheirs (Some (with_page tag page pages)) k q
with_theirs tag page pages k q at h t there = ⊎_elim
    (λ (one : tag_eq t tag ≡ true). same_lane t tag k one ∙ at)
    (λ (apart : tag_eq t tag ≡ false). h t (ap (λ (b : Bool). is_some (cond b (Some page) (pages t))) (sym apart) ∙ there))
    (cases_Bool (tag_eq t tag))

failed_theirs : (tag : Tag) (pages : Pages) (marks : Marks) (after : Pages) (after_marks : Marks) (k q : ℕ) → lane_number tag k ≡ q → HasTheirs (Some pages) k q → AfterFailure tag pages marks after after_marks → HasTheirs (Some after) k q
failed_theirs tag pages marks after after_marks k q at h (inl (torn, marked)) = subst (λ (p : Pages). HasTheirs (Some p) k q) (sym torn.is) (with_theirs tag torn.left pages k q at h)
failed_theirs tag pages marks after after_marks k q at h (inr r) = subst (λ (p : Pages). HasTheirs (Some p) k q) (sym r.pages_stay) h

written_theirs : {E : Type 0} (tag : Tag) (page : List ℕ) (lane : Option Pages) (marks : Marks) (after : Option Pages) (after_marks : Marks) (r : Result Unit E) (k q : ℕ) → lane_number tag k ≡ q → HasTheirs lane k q → AfterWrite tag page lane marks after after_marks r → HasTheirs after k q
written_theirs tag page None marks after after_marks r k q at h w = subst (λ (l : Option Pages). HasTheirs l k q) (sym w) (λ t. tt)
written_theirs tag page (Some pages) marks after after_marks (Ok x) k q at h w = subst (λ (l : Option Pages). HasTheirs l k q) (sym w.0) (with_theirs tag page pages k q at h)
written_theirs tag page (Some pages) marks None after_marks (Err x) k q at h w = absurd w
written_theirs tag page (Some pages) marks (Some left) after_marks (Err x) k q at h w = failed_theirs tag pages marks left after_marks k q at h w

-- a write, whether or not it failed, leaves that so
pub theirs_still : {E : Type 0} (tag : Tag) (page : List ℕ) (a b : List (Option Pages)) (m n : List Marks) (r : Result Unit E) → 0 < length a → HoldTheirs a → WritesTo tag page a b m n r → HoldTheirs b
theirs_still tag page a b m n r any h w q t below = subst (λ (k : ℕ). IfSome (get_or b q None) (λ pages. is_some (pages t) ≡ true → lane_number t k ≡ q)) (sym count)
    (subst (λ (l : List (Option Pages)). HasTheirs (get_or l q None) (length a) q) (sym w.contents) (dite (ℕ_discrete q at) here elsewhere) t)
  where
    at : ℕ
    at = lane_number tag (length a)

    count : length b ≡ length a
    count = ap (λ (l : List (Option Pages)). length l) w.contents ∙ length-set a at w.after

    within : at < length a
    within = omega (arith, any)

    here : q ≡ at → HasTheirs (get_or (set a at w.after) q None) (length a) q
    here e = subst (λ (l : Option Pages). HasTheirs l (length a) q) (sym (ap (λ (k : ℕ). get_or (set a at w.after) k None) e ∙ get_or-set_same a at w.after None within))
        (written_theirs tag page (lane_at a tag) (get_or m (lane_number tag (length m)) no_marks) w.after w.after_marks r (length a) q (sym e)
        (subst (λ (k : ℕ). HasTheirs (get_or a k None) (length a) q) e (λ u. h q u (omega (arith, count, below)))) w.lane)

    elsewhere : q ≢ at → HasTheirs (get_or (set a at w.after) q None) (length a) q
    elsewhere o = subst (λ (l : Option Pages). HasTheirs l (length a) q) (sym (get_or-set_other a at q w.after None o)) (λ u. h q u (omega (arith, count, below)))
