-- Loads of tag words: the tag is of a block of the relations, and a pin remembers it.
use Rattle.std.proofs.Common.{◌≡◌, ◌≢◌, ℕ, ◌<◌, ◌≤◌, cond, Bool, true, false, Option, Some, None, List, get_or, sym, refl, ap, ◌∙◌, subst, arith, ne_eqb}
use Rattle.std.specs.Prelude.{IfSome, is_some}
use Rattle.std.proofs.lemmas.Option.{same_Some}
use mathlib.Core.Option.{none}
use Rattle.atomic_table.specs.Table.{Me, step, Allows}
use Rattle.atomic_table.specs.Table as table
use Rattle.block_tag.specs.declared.tag.Tag.{Tag}
use Rattle.block_tag.specs.declared.catalogue.RelEntry.{RelEntry}
use Rattle.block_tag.specs.Names.{names_block, packed_tag, partition_number, unpacked_tag}
use Rattle.pin_core.specs.declared.view.Link.{Link}
use Rattle.pin_core.specs.declared.view.View.{View}
use Rattle.pin_core.specs.declared.view.MapChange.TheVariants.{Leaving}
use Rattle.pin_core.specs.declared.view.Role.{Role}
use Rattle.pin_core.specs.declared.view.Role.TheVariants.{Absent, HandedOut, Victim}
use Rattle.state_word.specs.declared.word.StateWord.{StateWord}
use Rattle.pin_core.specs.State.{Frame, link, no_tag}
use Rattle.pin_core.specs.Tallies.{settled_headers, weigh, frame_shape}
use Rattle.pin_core.specs.Invariant.{FrameLaw}
use Rattle.grid.specs.Shape.{tallies}
use Rattle.grid.proofs.Sums.{term_le}
use Rattle.pin_core.specs.Kinds.{tag_after}
use Rattle.pin_core.specs.Kinds as pin
use Rattle.table_rule.specs.declared.value.Value.{Value}
use Rattle.table_rule.specs.declared.opening.Opening.{Opening}
use Rattle.table_rule.specs.Blocks.{has_block, has_named, is_block}
use Rattle.table_rule.specs.Layout.{partition_of_tag, tag_partition, tag_place}
use Rattle.table_rule.specs.Shows.{Devices, RuleHolds}
use Rattle.frame_table.proofs.Listed.{listed_there}
use Rattle.pin_core.specs.State.{is_block as is_there}
use Rattle.history_core.proofs.Stepping.{frame_block}
use Rattle.table_rule.proofs.Tags.{packed_is, unpacked_is}
use Rattle.frame_table.specs.Kinds.{pins}
use Rattle.frame_table.specs.Seats.{MayChange, NamesIn, NamesStored, tag_word}
use Rattle.frame_table.specs.FrameSteps.{Did, always, tells, tells_tag}
use Rattle.frame_table.proofs.Allowing.{allows_with}
use Rattle.frame_table.proofs.HeldWords.{tagged_held, untagged_held}
use Rattle.frame_table.proofs.Holding.{read_after, tag_loads, tag_read}
use Rattle.frame_table.proofs.Seeing.{handed_settled}

module _ {L G : Type 0} (d : Devices L G) (o : Opening L G) where
  -- a number in a tag word, but for all ones, is of a block of the relations
  word_listed : (f : ℕ) → f < o.config.frames → (t : table.State (Value L G) View) → RuleHolds d o t → get_or t.words (tag_place f) 0 ≢ no_tag → is_block o.catalog.value (get_or t.words (tag_place f) 0) ≡ true
  word_listed f below t h named = let at = (h.shows.frame f below).tag in
      sym (listed_there d o h.state h.shows.fixed h.laws (get_or t.words (tag_place f) 0)) ∙ ap (is_there h.state.pool.core) (sym at)
      ∙ frame_block h.state h.laws.invariant f (let e = h.shows.fixed.frames in omega arith) (λ e. named (sym at ∙ e))

  pub loads_tag : (slots id f : ℕ) (me : Me (Value L G) View) → f < o.config.frames → me.0.emptied ≡ false → pin.CanLoadTag (link me.0 f).role (link me.0 f).header
      → Allows (RuleHolds d o) slots id me (tag_place f) (λ n. n) (tells_tag o.catalog.value (step slots (tag_place f) 0 0 none) me)
  loads_tag slots id f me below live right = allows_with (RuleHolds d o) slots id me (tag_place f) (λ n. n) (tells (always (pins pin.load_tag)) (step slots (tag_place f) 0 0 none) me) (λ found. found ≢ no_tag → is_block o.catalog.value found ≡ true)
      (tag_loads d o slots id f me below live right) (λ t h there. word_listed f below t h)

no_tag_none : unpacked_tag no_tag ≡ None
unfolding unpacked_tag
no_tag_none = refl

-- the number of a tag isn't all ones
tagged : (word : ℕ) (tag : Tag) → unpacked_tag word ≡ Some tag → word ≢ no_tag
tagged word tag is e = let no : Some tag ≡ None = sym is ∙ ap unpacked_tag e ∙ no_tag_none in absurd (cc)

pub tag_named : (word : ℕ) (r : Option Tag) → r ≡ unpacked_tag word → IfSome r (λ tag. names_block tag ≡ true)
tag_named word None e = tt
tag_named word (Some tag) e = (unpacked_is word tag (sym e)).0

pub tag_listed : (relations : List RelEntry) (word : ℕ) (r : Option Tag) → r ≡ unpacked_tag word → (word ≢ no_tag → is_block relations word ≡ true) → IfSome r (λ tag. has_block relations tag ≡ true)
unfolding is_block
tag_listed relations word None e block = tt
tag_listed relations word (Some tag) e block = ap (has_named relations) e ∙ block (tagged word tag (sym e))

remembered : (pending : Bool) (r : Role) (word : ℕ) (known : Option ℕ) → pending ≡ false → r ≢ Absent → word ≢ no_tag → tag_after pending r word known ≡ Some word
remembered true r word known settled pinned named = absurd (let no : true ≡ false = settled in cc)
remembered false Absent word known settled pinned named = absurd (pinned refl)
remembered false HandedOut word known settled pinned named = ap (λ (b : Bool). cond b known (Some word)) (ne_eqb word no_tag named)
remembered false Victim word known settled pinned named = ap (λ (b : Bool). cond b known (Some word)) (ne_eqb word no_tag named)

-- what a pin remembers after a load, where no tag word was stored
pub tag_settled : (f found : ℕ) (v w : View) (r : Option Tag) → Did (pins pin.load_tag) f v w found → r ≡ unpacked_tag found → IfSome r (λ tag. packed_tag tag ≡ found) → IfSome r (λ tag. (link v f).role ≢ Absent → (link v f).pending ≡ false → (link w f).tag ≡ Some (packed_tag tag))
tag_settled f found v w None d e back = tt
tag_settled f found v w (Some tag) d e back = λ pinned settled. ap (λ (l : Link). l.tag) (read_after f v w (Some tag) (tag_read f found v w (Some tag) d e back))
    ∙ remembered (link v f).pending (link v f).role (packed_tag tag) (link v f).tag settled pinned (λ none. tagged found tag (sym e) (sym back ∙ none))

pub tag_handed : (f found : ℕ) (v w : View) (r : Option Tag) → Did (pins pin.load_tag) f v w found → IfSome r (λ tag. (link v f).role ≢ Absent → (link v f).pending ≡ false → (link w f).tag ≡ Some (packed_tag tag)) → IfSome r (λ tag. (link v f).role ≡ HandedOut → (link w f).tag ≡ Some (packed_tag tag))
tag_handed f found v w None d known = tt
tag_handed f found v w (Some tag) d known = λ handed. known (λ e. let no : HandedOut ≡ Absent = sym handed ∙ e in absurd (cc)) (handed_settled (pins pin.load_tag) f found v w d handed)

-- the frame of a handed-out pin has a tag
pub tag_had : (f : ℕ) (v w : View) (r : Option Tag) → Did (pins pin.load_tag) f v w (tag_word r) → (link v f).role ≡ HandedOut → is_some r ≡ true
tag_had f v w None d handed = absurd (((d.laws.invariant.pool.core.grid.cells d.seat v f d.there d.inside).handed_out handed).named d.says)
tag_had f v w (Some tag) d handed = refl

-- the number of the tag that is answered isn't all ones
pub tag_numbered : (found : ℕ) (r : Option Tag) → r ≡ unpacked_tag found → IfSome r (λ tag. packed_tag tag ≡ found) → IfSome r (λ tag. packed_tag tag ≢ no_tag)
tag_numbered found None e back = tt
tag_numbered found (Some tag) e back = λ none. tagged found tag (sym e) (sym back ∙ none)

by_flag : (r : Option Tag) (b : Bool) → IfSome r (λ tag. packed_tag tag ≢ no_tag) → (b ≡ true → tag_word r ≢ no_tag) → (b ≡ false → tag_word r ≡ no_tag) → is_some r ≡ b
by_flag None true numbered flagged unflagged = absurd (flagged refl refl)
by_flag None false numbered flagged unflagged = refl
by_flag (Some tag) true numbered flagged unflagged = refl
by_flag (Some tag) false numbered flagged unflagged = absurd (numbered (unflagged refl))

-- under the header a tag is answered exactly if the held word has BM_TAG_VALID, unless the tag word was stored
pub tag_flagged : (f : ℕ) (v w : View) (r : Option Tag) → Did (pins pin.load_tag) f v w (tag_word r) → IfSome r (λ tag. packed_tag tag ≢ no_tag) → (link v f).pending ≡ false → IfSome (link v f).header (λ word. is_some r ≡ word.tag_valid)
tag_flagged f v w r d numbered settled = by_header (link v f).header refl
  where
    fr : Frame
    fr = d.state.pool.core.frame f

    law : FrameLaw fr (tallies frame_shape d.state.pool.core.views f)
    law = d.laws.invariant.pool.core.grid.columns f d.inside

    own : weigh settled_headers (link v f) ≤ tallies frame_shape d.state.pool.core.views f settled_headers
    own = term_le (λ (u : View). weigh settled_headers (link u f)) d.state.pool.core.views d.seat v d.there

    by_word : (word : StateWord) → (link v f).header ≡ Some word → is_some r ≡ word.tag_valid
    by_word word e = let is : fr.word ≡ word = (d.laws.invariant.pool.core.grid.cells d.seat v f d.there d.inside).header word e in
        let held : (link v f).header ≡ Some fr.word = e ∙ ap (λ (x : StateWord). Some x) (sym is) in
        let flag : fr.word.tag_valid ≡ word.tag_valid = ap (λ (x : StateWord). x.tag_valid) is in
        by_flag r word.tag_valid numbered
        (λ stands none. tagged_held fr (link v f) (tallies frame_shape d.state.pool.core.views f) law own held settled (flag ∙ stands) (d.says ∙ none))
        (λ clear. sym d.says ∙ untagged_held fr (link v f) (tallies frame_shape d.state.pool.core.views f) law own held settled (flag ∙ clear))

    by_header : (h : Option StateWord) → (link v f).header ≡ h → IfSome h (λ word. is_some r ≡ word.tag_valid)
    by_header None e = tt
    by_header (Some word) e = by_word word e

-- a tag that names a block lies in the partition of its number
pub packed_partition : (tag : Tag) → names_block tag ≡ true → tag_partition (packed_tag tag) ≡ partition_number tag
packed_partition tag named = ap partition_of_tag (packed_is tag named)

pub tag_placed : (r : Option Tag) → IfSome r (λ tag. names_block tag ≡ true) → IfSome r (λ tag. tag_partition (packed_tag tag) ≡ partition_number tag)
tag_placed None named = tt
tag_placed (Some tag) named = packed_partition tag named

-- so a backend whose pin remembers the tag, and that has the latch of the tag's partition, has that of the tag word that it knows
pub may_erase : (tag : Tag) (f : ℕ) (v : View) → names_block tag ≡ true → (link v f).tag ≡ Some (packed_tag tag) → MayChange v (partition_number tag) → (word : ℕ) → (link v f).tag ≡ Some word → MayChange v (tag_partition word)
may_erase tag f v named knows may word is = subst (MayChange v) (sym (packed_partition tag named) ∙ ap tag_partition (same_Some (packed_tag tag) word (sym knows ∙ is))) may

-- and as it takes the tag away it names the pair in the tag's partition
pub erase_names : (tag : Tag) (f : ℕ) (v w : View) → names_block tag ≡ true → (link v f).tag ≡ Some (packed_tag tag) → NamesStored None f v w → NamesIn (partition_number tag) (Leaving (packed_tag tag) f) v w
erase_names tag f v w named knows names = subst (λ (p : ℕ). NamesIn p (Leaving (packed_tag tag) f) v w) (packed_partition tag named) (names (packed_tag tag) knows)
