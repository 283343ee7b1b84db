-- One record more: the blocks that records are of, and how far a redo has come.
use Rattle.std.proofs.Common.{◌≡◌, ℕ, ◌+◌, ◌≤◌, Bool, true, false, ◌||◌, cond, List, [], ◌∷◌, ◌++◌, length, length-append, Option, Some, None, sym, refl, ap, ◌∙◌, ⊎_elim, arith}
use Rattle.std.specs.BTreeMap.{is_at}
use Rattle.std.specs.BTreeSet as sorted
use Rattle.std.specs.List.{cons_option, list_any}
use Rattle.std.specs.Ordering.{nat_cmp}
use Rattle.std.specs.Prelude.{nat_eq}
use Rattle.std.specs.Set.{distinct_count, unique_keys}
use Rattle.std.proofs.lemmas.Bool.{both_ways, eqb-true}
use Rattle.std.proofs.lemmas.List.Folds.{list_any-append}
use mathlib.Core.Option.{some, some-ne-none}
use lib.ListN.{get_elem?}
use Rattle.block_tag.specs.declared.tag.Tag.{Tag}
use Rattle.block_tag.specs.Names.{packed_tag}
use Rattle.history_core.specs.Log.{Entry, IsImage, Log, is_image, record_size, tag_in}
use Rattle.history_core.specs.State.{last_position}
use Rattle.history_core.proofs.Logs.{end_longer, end_none, log_longer, none_chained}
use Rattle.grid.proofs.Lists.{at_end}
use Rattle.log_recovery.specs.Records.{image_entry}
use Rattle.log_recovery.specs.Redo.{block_count, words_of}
use Rattle.log_recovery.specs.Steps.{IsUpto, StepsOn}
use Rattle.log_recovery.specs.declared.redo.Progress.{Progress}

-- ---- how many different numbers a list has

length_cond : (b : Bool) (x : ℕ) (xs : List ℕ) → length (cond b xs (x ∷ xs)) ≡ length xs + cond b 0 1
length_cond true x xs = omega arith
length_cond false x xs = omega arith

-- a is whether the first number stands later, b whether it is the one at the end, c whether that one stood before
count_step : (a b c : Bool) (u v : ℕ) → (b ≡ true → c ≡ a) → v ≡ u + cond c 0 1 → v + cond (a || (b || false)) 0 1 ≡ (u + cond a 0 1) + cond (b || c) 0 1
count_step true true true u v same is = omega arith
count_step true true false u v same is = absurd (both_ways false refl (same refl))
count_step true false true u v same is = omega arith
count_step true false false u v same is = omega arith
count_step false true true u v same is = absurd (both_ways true (same refl) refl)
count_step false true false u v same is = omega arith
count_step false false true u v same is = omega arith
count_step false false false u v same is = omega arith

same_either_way : (x n : ℕ) → nat_eq n x ≡ nat_eq x n
same_either_way x n = grind arith

pub count_push : (ns : List ℕ) (n : ℕ) → distinct_count nat_eq (ns ++ n ∷ []) ≡ distinct_count nat_eq ns + cond (list_any (nat_eq n) ns) 0 1
count_push [] n = omega arith
count_push (x ∷ ns) n =
    let us = unique_keys nat_eq ns in
    let vs = unique_keys nat_eq (ns ++ n ∷ []) in
    let a = list_any (nat_eq x) ns in
    let b = nat_eq x n in
    let c = list_any (nat_eq n) ns in
    length_cond (list_any (nat_eq x) (ns ++ n ∷ [])) x vs
    ∙ ap (λ (t : Bool). length vs + cond t 0 1) (list_any-append (nat_eq x) ns (n ∷ []))
    ∙ count_step a b c (length us) (length vs) (λ e. ap (λ (m : ℕ). list_any (nat_eq m) ns) (sym (eqb-true x n e))) (count_push ns n)
    ∙ ap (λ (t : ℕ). t + cond (b || c) 0 1) (sym (length_cond a x us))
    ∙ ap (λ (t : Bool). length (cond a us (x ∷ us)) + cond (t || c) 0 1) (sym (same_either_way x n))

-- ---- the blocks of entries

cons_append : (o : Option ℕ) (xs ys : List ℕ) → cons_option o (xs ++ ys) ≡ cons_option o xs ++ ys
cons_append None xs ys = refl
cons_append (Some x) xs ys = refl

pub words_more : (es : List Entry) (e : Entry) (word : ℕ) → tag_in e.change ≡ Some word → words_of (es ++ e ∷ []) ≡ words_of es ++ word ∷ []
words_more [] e word of = ap (λ (o : Option ℕ). cons_option o []) of
words_more (x ∷ es) e word of = ap (cons_option (tag_in x.change)) (words_more es e word of) ∙ cons_append (tag_in x.change) (words_of es) (word ∷ [])

blocks_more : (es : List Entry) (e : Entry) (word : ℕ) → tag_in e.change ≡ Some word → block_count (es ++ e ∷ []) ≡ block_count es + cond (list_any (nat_eq word) (words_of es)) 0 1
unfolding block_count
blocks_more es e word of = ap (distinct_count nat_eq) (words_more es e word of) ∙ count_push (words_of es) word

pub no_blocks : block_count [] ≡ 0
unfolding block_count
no_blocks = refl

swapped : (a b : Bool) → (a || b) ≡ (b || (a || false))
swapped true true = refl
swapped true false = refl
swapped false true = refl
swapped false false = refl

has_more : (es : List Entry) (e : Entry) (word n : ℕ) (b : Bool) → tag_in e.change ≡ Some word → b ≡ list_any (nat_eq n) (words_of es) → (nat_eq n word || b) ≡ list_any (nat_eq n) (words_of (es ++ e ∷ []))
has_more es e word n b of is = ap (λ (t : Bool). nat_eq n word || t) is ∙ swapped (nat_eq n word) (list_any (nat_eq n) (words_of es))
    ∙ sym (list_any-append (nat_eq n) (words_of es) (word ∷ [])) ∙ ap (list_any (nat_eq n)) (sym (words_more es e word of))

-- ---- how far a redo has come

pub upto_none : (base : ℕ) (p : Progress) → base ≤ last_position → p.base ≡ base → p.position ≡ base → p.entries ≡ 0 → p.blocks.keys ≡ [] → IsUpto base [] p
upto_none base p low base_is at none empty = record {
  base_is = base_is;
  position = at ∙ sym (end_none base);
  entries = none;
  low = omega (arith, low, at);
  few = omega (arith, none);
  law = record { chained = none_chained base; valid = λ k e there. absurd (some-ne-none e (sym there)) };
  images = λ k e there. absurd (some-ne-none e (sym there));
  blocks = λ word. ap (list_any (is_at (nat_cmp word))) empty;
  count = ap (λ (l : List ℕ). length l) empty ∙ sym no_blocks;
}

pub upto_more : (base : ℕ) (es : List Entry) (tag : Tag) (page : List ℕ) (p q : Progress) → IsUpto base es p → StepsOn tag p q → IsImage (p.position + record_size) page → p.position + record_size ≤ last_position
    → IsUpto base (es ++ image_entry p.position tag page ∷ []) q
upto_more base es tag page p q u s valid room = record {
  base_is = s.base ∙ u.base_is;
  position = s.position ∙ sym (end_longer log e u.law);
  entries = (let a = s.entries in let b = u.entries in let n = length-append es (e ∷ []) in omega (arith, a, b, n));
  low = (let a = s.position in omega (arith, a, room));
  few = (let a = s.entries in let b = u.few in let c = s.position in omega (arith, a, b, c));
  law = log_longer log e u.law u.position valid;
  images = λ k x there. ⊎_elim (λ (t : get_elem? es k ≡ some x). u.images k x t) (λ (t : (e ≡ x) × (k ≡ length es)). ap (λ (y : Entry). is_image y.change) (sym t.0)) (at_end es e x k there);
  blocks = λ word. s.blocks word ∙ has_more es e (packed_tag tag) word (sorted.contains nat_cmp p.blocks word) refl (u.blocks word);
  count = s.count ∙ ap (λ (n : ℕ). n + cond (sorted.contains nat_cmp p.blocks (packed_tag tag)) 0 1) u.count
      ∙ ap (λ (b : Bool). block_count es + cond b 0 1) (u.blocks (packed_tag tag)) ∙ sym (blocks_more es e (packed_tag tag) refl);
}
  where
    e : Entry
    e = image_entry p.position tag page

    log : Log
    log = record { base = base; entries = es }
