-- What the looks at all frames show of the blocks that the view had seen in them.
use Rattle.std.proofs.Common.{◌≡◌, ◌≢◌, ◌∙◌, ℕ, ◌<◌, ◌≤◌, Bool, true, false, Option, Some, None, List, [], ◌∷◌, ◌++◌, append-nil, arith, length, length-append, refl, sym, ap, subst}
use Rattle.std.specs.Prelude.{All, Contains, flat_map}
use Rattle.std.proofs.lemmas.List.{length-map}
use Rattle.std.proofs.lemmas.List.Concat.{flat_map-append}
use Rattle.std.proofs.lemmas.List.Elements.{Contains-append_left, Contains-append_right}
use mathlib.Core.Option.{some}
use mathlib.Core.Logic.{dite}
use native.Mathlib.Decide.{ℕ_discrete}
use lib.ListN.{get_elem?}
use Rattle.state_word.specs.Fields.{fields}
use Rattle.block_tag.specs.declared.tag.Tag.{Tag}
use Rattle.block_lists.specs.Tags.{ListsTags, numbers_in}
use Rattle.block_lists.proofs.Ordered.{all_ordered, numbers_among}
use Rattle.pin_core.specs.declared.view.Resident.{Resident}
use Rattle.pin_core.specs.declared.view.View.{View}
use Rattle.pin_core.specs.State.{no_tag}
use Rattle.pin_core.specs.Kinds.{load_tag, lock_header, unlock_header}
use Rattle.frame_table.specs.declared.table.FrameTable.{FrameTable}
use Rattle.frame_table.specs.FrameSteps.{looking}
use Rattle.frame_table.specs.Kinds.{pins}
use Rattle.frame_table.specs.Seats.{KeepsResidents, frames_of, relations_of, tag_word}
use Rattle.frame_table.proofs.Residents.{residents_on, residents_same}
use Rattle.frame_table.proofs.Sightings.{gone_unless}
use Rattle.frame_table.proofs.Told.{grows, looks_touch}
use Rattle.buffer_frames.specs.declared.inspecting.Seen.{Seen}
use Rattle.buffer_frames.specs.Inspections.{Inspects}
use Rattle.pool_residents.specs.Residents.{InspectsEach, IsBlockIn, ListsResidents, NotesFrames, SeesResidents, again, still, tag_if, valid_tag}

-- a block that the view has seen stays listed while a frame is looked at
under_keeps : (f : ℕ) (seen : Seen) (v w : View) (i : Inspects f seen v w) → KeepsResidents v.residents i.under.residents
under_keeps f seen v w i = residents_on v.residents i.locks.before.residents i.under.residents (looks_touch f v i.locks.before i.locks.looks).grows.residents (grows (pins lock_header) f i.was i.locks.before i.under i.locks.did).residents

pub inspect_keeps : (f : ℕ) (seen : Seen) (v w : View) → Inspects f seen v w → KeepsResidents v.residents w.residents
inspect_keeps f seen v w i =
    residents_on v.residents i.under.residents w.residents (under_keeps f seen v w i)
    (residents_on i.under.residents i.looked.residents w.residents (grows looking f seen.word i.under i.looked i.looks).residents
    (residents_on i.looked.residents i.loaded.residents w.residents (grows (pins load_tag) f (tag_word seen.tag) i.looked i.loaded i.loads).residents (grows (pins unlock_header) f i.last i.loaded w i.unlocks).residents))

pub each_keeps : (v : View) (all : List Seen) (w : View) → InspectsEach v all w → KeepsResidents v.residents w.residents
each_keeps v all w still = residents_same v.residents v.residents refl
each_keeps v all w (again {u = u} before seen e i) = residents_on v.residents u.residents w.residents (each_keeps v before u e) (inspect_keeps (length before) seen u w i)

-- what isn't gone later wasn't gone before
not_gone : (before after : Bool) → (before ≡ true → after ≡ true) → after ≡ false → before ≡ false
not_gone true after keeps here = absurd (let no : true ≡ false = sym (keeps refl) ∙ here in cc)
not_gone false after keeps here = refl

still_there : (rs after : List Resident) (k : ℕ) (r x : Resident) → KeepsResidents rs after → get_elem? rs k ≡ some r → get_elem? after k ≡ some x → x.gone ≡ false → r.gone ≡ false
still_there rs after k r x keeps at there here =
    let kept = keeps k r at in
    let same : kept.0 ≡ x = (let one : some kept.0 ≡ some x = sym kept.1 ∙ there in cc) in
    not_gone r.gone x.gone (λ e. subst (λ (y : Resident). y.gone ≡ true) same (kept.2.gone e)) here

-- the number of the tag that was shown
shown_tag : (b : Bool) (o : Option Tag) (n : ℕ) → b ≡ true → tag_word o ≡ n → n ≢ no_tag → tag_if b o ≡ n ∷ []
shown_tag true (Some tag) n valid is tagged = ap (λ (x : ℕ). x ∷ []) is
shown_tag true None n valid is tagged = absurd (tagged (sym is))
shown_tag false o n valid is tagged = absurd (let no : false ≡ true = valid in cc)

-- a block that the view had seen in the frame, and that isn't gone after the look, is the one that the look shows
shown_still : (f : ℕ) (seen : Seen) (v w : View) → Inspects f seen v w → (k : ℕ) (r x : Resident) → get_elem? v.residents k ≡ some r → r.frame ≡ f → r.tag ≢ no_tag → get_elem? w.residents k ≡ some x → x.gone ≡ false → valid_tag seen ≡ r.tag ∷ []
shown_still f seen v w i k r x at frame tagged there here =
    let held = under_keeps f seen v w i k r at in
    let sees = gone_unless f seen.word (tag_word seen.tag) i.under i.looked i.loaded i.looks i.loads k held.0 held.1 (held.2.frame ∙ frame) in
    let shown = sees.still (still_there i.loaded.residents w.residents k sees.now x (grows (pins unlock_header) f i.last i.loaded w i.unlocks).residents sees.there there here) in
    shown_tag (fields seen.word).valid seen.tag r.tag shown.0 (shown.1 ∙ held.2.tag) tagged

last_contains : (all : List Seen) (seen : Seen) (n : ℕ) → valid_tag seen ≡ n ∷ [] → Contains (flat_map valid_tag (all ++ seen ∷ [])) n
last_contains all seen n is =
    let one : Contains (n ∷ []) n = (0, omega arith, refl) in
    let whole : flat_map valid_tag (all ++ seen ∷ []) ≡ flat_map valid_tag all ++ n ∷ [] = flat_map-append valid_tag all (seen ∷ []) ∙ ap (λ (l : List ℕ). flat_map valid_tag all ++ l) (append-nil (valid_tag seen) ∙ is) in
    subst (λ (l : List ℕ). Contains l n) (sym whole) (Contains-append_right (flat_map valid_tag all) (n ∷ []) n one)

more_contains : (all : List Seen) (seen : Seen) (n : ℕ) → Contains (flat_map valid_tag all) n → Contains (flat_map valid_tag (all ++ seen ∷ [])) n
more_contains all seen n there = subst (λ (l : List ℕ). Contains l n) (sym (flat_map-append valid_tag all (seen ∷ []))) (Contains-append_left (flat_map valid_tag all) (flat_map valid_tag (seen ∷ [])) n there)

-- A block that the view had seen in a frame, and that isn't gone after all frames were looked at, is one of those seen
pub still_listed : (v : View) (all : List Seen) (w : View) → InspectsEach v all w → (k : ℕ) (r x : Resident) → get_elem? v.residents k ≡ some r → r.frame < length all → r.tag ≢ no_tag → get_elem? w.residents k ≡ some x → x.gone ≡ false → Contains (flat_map valid_tag all) r.tag
still_listed v all w still k r x at low tagged there here = absurd (omega arith)
still_listed v all w (again {u = u} before seen e i) k r x at low tagged there here =
    let held = each_keeps v before u e k r at in
    dite (ℕ_discrete r.frame (length before))
    (λ last. last_contains before seen r.tag (shown_still (length before) seen u w i k held.0 x held.1 (held.2.frame ∙ last) (λ none. tagged (sym held.2.tag ∙ none)) there here ∙ ap (λ (n : ℕ). n ∷ []) held.2.tag))
    (λ earlier. more_contains before seen r.tag (still_listed v before u e k r held.0 at (let long = length-append before (seen ∷ []) in omega arith) tagged held.1 (still_there u.residents w.residents k held.0 x (inspect_keeps (length before) seen u w i) held.1 there here)))

-- so it is listed
pub resident_listed : (frames : ℕ) (tags : List ℕ) (v w : View) → SeesResidents frames tags v w → (k : ℕ) (r x : Resident) → get_elem? v.residents k ≡ some r → r.frame < frames → r.tag ≢ no_tag → get_elem? w.residents k ≡ some x → x.gone ≡ false → Contains tags r.tag
resident_listed frames tags v w s k r x at low tagged there here = s.listed r.tag (still_listed v s.all w s.each k r x at (subst (λ (n : ℕ). r.frame < n) (sym s.counted) low) tagged there here)

-- the blocks that were noted are listed
pub lists_noted : {L G : Type 0} (t : FrameTable L G) (v w : View) (tags : List Tag) (old new : List ℕ) (count : ℕ) → NotesFrames v (frames_of t) w tags → All (IsBlockIn (relations_of t)) tags → length tags ≤ 65536 → ListsTags (relations_of t) tags old new count → ListsResidents t v w old new count
lists_noted t v w tags old new count n blocks few lists = let order = lists.order in record {
  listed = lists.listed;
  counted = lists.counted;
  sees = record {
    all = n.all;
    each = n.each;
    counted = n.counted;
    tagged = n.tagged;
    rises = order.rises;
    listed = λ x h. numbers_among tags lists.listed order.keeps x (subst (λ (l : List ℕ). Contains l x) (sym n.noted) h);
    seen = λ x h. subst (λ (l : List ℕ). Contains l x) n.noted (numbers_among lists.listed tags order.adds_none x h);
  };
  blocks = all_ordered (IsBlockIn (relations_of t)) tags lists.listed order blocks;
  text = lists.text;
  list = record { few = (let less = order.few in let long = length-map lists.listed (numbers_in (relations_of t)) in omega arith); good = lists.good; written = refl };
}
