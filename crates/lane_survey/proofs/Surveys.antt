-- Surveys of some blocks, one after the other.
use Rattle.std.proofs.Common.{◌≡◌, ◌⊎◌, inl, inr, ℕ, zero, suc, ◌+◌, ◌<◌, ◌≤◌, ◌^◌, ◌-◌, max, Bool, true, false, List, [], ◌∷◌, get_or, length, map, set, take, Option, Some, None, refl, sym, ap, ◌∙◌, subst, arith}
use Rattle.std.specs.Prelude.{IfSome, IsSomeAnd, nat_lt, sum_by}
use Rattle.std.specs.Option.{ForSome, option_and_then}
use Rattle.std.proofs.lemmas.List.{get_or-map, length-map, map-set}
use Rattle.std.proofs.lemmas.List.Sums.{sum_by-cons}
use Rattle.std.proofs.lemmas.Bool.{lt-ltb, ltb-true}
use Rattle.block_tag.specs.declared.catalogue.RelEntry.{RelEntry}
use Rattle.block_tag.specs.declared.tag.Fork.{Fork}
use Rattle.block_tag.specs.declared.tag.Fork.TheVariants.{Main, Fsm, Vm, Init}
use Rattle.block_tag.specs.declared.tag.Tag.{Tag}
use Rattle.block_tag.specs.Catalogue.{blocks_at}
use Rattle.block_tag.specs.Names.{fork_number, fork_of_number, lane_number, names_block, tag_of_parts}
use Rattle.byte_devices.specs.Faults.{Rose}
use Rattle.page_layout.specs.Fields.{lsn_of}
use Rattle.page_layout.specs.Soundness.{is_sound_page}
use Rattle.segment_store.specs.Contents.{Marks, Pages}
use Rattle.segment_store.specs.Lanes.{lane_at}
use Rattle.lane_survey.specs.Survey.{AreOfBlock, AreOfFork, AreOfForks, AreOfRelation, AreOfRelations, AreOnlyRead, FailsToRead, HaveTheirs, IsLargestLsn, IsListed, IsListedByName, IsLsnOf, IsSoundAt, RoseAt, Surveys, relation_blocks, sum_of_forks}

true_or_false : (b : Bool) → (b ≡ true) ⊎ (b ≡ false)
true_or_false true = inl refl
true_or_false false = inr refl

one_is_largest : (a b : ℕ) → (max a b ≡ a) ⊎ (max a b ≡ b)
one_is_largest a b = grind arith

-- the page that was read is the block's, where that is known
the_page : (lane : Option Pages) (tag : Tag) (page q : List ℕ) → IfSome lane (λ pages. pages tag ≡ Some page) → option_and_then (λ pages. pages tag) lane ≡ Some q → page ≡ q
the_page None tag page q is h = absurd (let no : None ≡ Some q = h in cc)
the_page (Some pages) tag page q is h = let e : Some page ≡ Some q = sym is ∙ h in cc

known_page : (lane : Option Pages) (tag : Tag) (page : List ℕ) (lsn : ℕ) → IfSome lane (λ pages. pages tag ≡ Some page) → IsSoundAt lsn page → ForSome lane (λ pages. IsSomeAnd (pages tag) (IsSoundAt lsn))
known_page lane tag page lsn is sound pages e =
    subst (λ (o : Option (List ℕ)). IsSomeAnd o (IsSoundAt lsn)) (sym (subst (λ (o : Option Pages). IfSome o (λ known. known tag ≡ Some page)) e is)) sound

module _ (lanes : List (Option Pages)) where
  -- of one block
  pub largest_of_block : (tag : Tag) (page : List ℕ) (lsn : ℕ) → IfSome (lane_at lanes tag) (λ pages. pages tag ≡ Some page)
      → (is_sound_page page ≡ true → lsn ≡ lsn_of page) → (is_sound_page page ≡ false → lsn ≡ 0) → IsLargestLsn (AreOfBlock tag) lanes lsn
  largest_of_block tag page lsn is sound unsound = record {
    bound = λ other q one there good.
        let same = the_page (lane_at lanes tag) tag page q is (subst (λ (t : Tag). option_and_then (λ pages. pages t) (lane_at lanes t) ≡ Some q) one there) in
        let position = sound (ap is_sound_page same ∙ good) ∙ ap lsn_of same in
        omega (arith, position);
    reached = by_soundness (true_or_false (is_sound_page page));
  }
    where
      by_soundness : (is_sound_page page ≡ true) ⊎ (is_sound_page page ≡ false) → (lsn ≡ 0) ⊎ ((t : Tag) × IsLsnOf (AreOfBlock tag) lanes t lsn)
      by_soundness (inl good) = inr (tag, record { listed = refl; page = known_page (lane_at lanes tag) tag page lsn is (record { sound = good; position = sym (sound good) }) })
      by_soundness (inr bad) = inl (unsound bad)

  module _ (A B C : Tag → Type 0) where
    wider : ((tag : Tag) → A tag → C tag) → (lsn : ℕ) (tag : Tag) → IsLsnOf A lanes tag lsn → IsLsnOf C lanes tag lsn
    wider more lsn tag of = record { listed = more tag of.listed; page = of.page }

    at_position : (a lsn : ℕ) → lsn ≡ a → ((tag : Tag) → A tag → C tag) → (a ≡ 0) ⊎ ((tag : Tag) × IsLsnOf A lanes tag a) → (lsn ≡ 0) ⊎ ((tag : Tag) × IsLsnOf C lanes tag lsn)
    at_position a lsn e more (inl none) = inl (e ∙ none)
    at_position a lsn e more (inr (tag, of)) = inr (tag, subst (λ (n : ℕ). IsLsnOf C lanes tag n) (sym e) (wider more a tag of))

    -- of the blocks of one set, which are those of another
    pub largest_of_same : ((tag : Tag) → A tag → C tag) → ((tag : Tag) → C tag → A tag) → (a : ℕ) → IsLargestLsn A lanes a → IsLargestLsn C lanes a
    largest_of_same more less a of = record {
      bound = λ tag page one. of.bound tag page (less tag one);
      reached = at_position a a refl more of.reached;
    }

  module _ (A B C : Tag → Type 0) (parted : (tag : Tag) → C tag → A tag ⊎ B tag) (left : (tag : Tag) → A tag → C tag) (right : (tag : Tag) → B tag → C tag) where
    -- of two sets together
    pub largest_of_both : (a b : ℕ) → IsLargestLsn A lanes a → IsLargestLsn B lanes b → IsLargestLsn C lanes (max a b)
    largest_of_both a b first second = record {
      bound = λ tag page one there good. of_either tag page there good (parted tag one);
      reached = reached_by (one_is_largest a b);
    }
      where
        of_either : (tag : Tag) (page : List ℕ) → option_and_then (λ pages. pages tag) (lane_at lanes tag) ≡ Some page → is_sound_page page ≡ true → A tag ⊎ B tag → lsn_of page ≤ max a b
        of_either tag page there good (inl one) = let le = first.bound tag page one there good in omega (arith, le)
        of_either tag page there good (inr one) = let le = second.bound tag page one there good in omega (arith, le)

        reached_by : (max a b ≡ a) ⊎ (max a b ≡ b) → (max a b ≡ 0) ⊎ ((tag : Tag) × IsLsnOf C lanes tag (max a b))
        reached_by (inl e) = at_position A B C a (max a b) e left first.reached
        reached_by (inr e) = at_position B A C b (max a b) e right second.reached

module _ {L : Type 0} (contents : L → Option Pages) (failed_writes unsynced : L → Marks) (read_faults write_faults calls : L → ℕ) where
  -- lanes that were only read, once and again
  pub only_read_none : (ls : List L) → AreOnlyRead contents failed_writes unsynced write_faults ls ls
  only_read_none ls = record { contents_same = refl; failed_same = refl; unsynced_same = refl; writes_same = refl }

  only_read_both : (ls ms ns : List L) → AreOnlyRead contents failed_writes unsynced write_faults ls ms → AreOnlyRead contents failed_writes unsynced write_faults ms ns → AreOnlyRead contents failed_writes unsynced write_faults ls ns
  only_read_both ls ms ns first second = record {
    contents_same = second.contents_same ∙ first.contents_same;
    failed_same = second.failed_same ∙ first.failed_same;
    unsynced_same = second.unsynced_same ∙ first.unsynced_same;
    writes_same = second.writes_same ∙ first.writes_same;
  }

  as_many : (ls ms : List L) → AreOnlyRead contents failed_writes unsynced write_faults ls ms → length ms ≡ length ls
  as_many ls ms same = sym (length-map ms contents) ∙ ap (λ (l : List (Option Pages)). length l) same.contents_same ∙ length-map ls contents

  -- what is known to be there is there still
  pub still_have : (blocks : Tag → Type 0) (ls ms : List L) → AreOnlyRead contents failed_writes unsynced write_faults ls ms → HaveTheirs blocks (map contents ls) → HaveTheirs blocks (map contents ms)
  still_have blocks ls ms same have = subst (HaveTheirs blocks) (sym same.contents_same) have

  -- no block was surveyed yet
  pub survey_of_none : (A : Tag → Type 0) (ls : List L) → ((tag : Tag) → A tag → 0 < 0) → Surveys contents failed_writes unsynced read_faults write_faults calls A 0 ls ls 0
  survey_of_none A ls none = record {
    same = only_read_none ls;
    faults = refl;
    read = omega arith;
    position = record { bound = λ tag page one. absurd (let no = none tag one in omega (arith, no)); reached = inl refl };
  }

  pub survey_of_same : (A C : Tag → Type 0) → ((tag : Tag) → A tag → C tag) → ((tag : Tag) → C tag → A tag) → (m n : ℕ) → m ≡ n → (ls ms : List L) (a : ℕ)
      → Surveys contents failed_writes unsynced read_faults write_faults calls A m ls ms a → Surveys contents failed_writes unsynced read_faults write_faults calls C n ls ms a
  survey_of_same A C more less m n e ls ms a s = record {
    same = s.same;
    faults = s.faults;
    read = s.read ∙ ap (λ (k : ℕ). sum_by calls ls + k) e;
    position = largest_of_same (map contents ls) A A C more less a s.position;
  }

  module _ (A B C : Tag → Type 0) (right : (tag : Tag) → B tag → C tag) (ls ms ns : List L) (m n : ℕ) (a : ℕ) (s : Surveys contents failed_writes unsynced read_faults write_faults calls A m ls ms a) where
    -- the blocks of one set were surveyed, and then those of another
    pub survey_of_both : ((tag : Tag) → C tag → A tag ⊎ B tag) → ((tag : Tag) → A tag → C tag) → (k : ℕ) → m + n ≡ k → (b : ℕ)
        → Surveys contents failed_writes unsynced read_faults write_faults calls B n ms ns b → Surveys contents failed_writes unsynced read_faults write_faults calls C k ls ns (max a b)
    survey_of_both parted left k e b t = record {
      same = only_read_both ls ms ns s.same t.same;
      faults = t.faults ∙ s.faults;
      read = let x = s.read in let y = t.read in omega (arith, x, y, e);
      position = largest_of_both (map contents ls) A B C parted left right a b s.position
          (subst (λ (lanes : List (Option Pages)). IsLargestLsn B lanes b) s.same.contents_same t.position);
    }

    -- and of those a read failed
    pub fails_after : (k : ℕ) → m + n ≤ k → (tag : Tag)
        → FailsToRead contents failed_writes unsynced read_faults write_faults calls B n ms ns tag → FailsToRead contents failed_writes unsynced read_faults write_faults calls C k ls ns tag
    fails_after k le tag f = record {
      same = only_read_both ls ms ns s.same f.same;
      listed = right tag f.listed;
      faults = subst (λ (old : List ℕ). RoseAt tag (length ls) old (map read_faults ns)) s.faults
          (subst (λ (lanes : ℕ). RoseAt tag lanes (map read_faults ms) (map read_faults ns)) (as_many ls ms s.same) f.faults);
      some_read = let x = s.read in let y = f.some_read in omega (arith, x, y);
      within = let x = s.read in let y = f.within in omega (arith, x, y, le);
    }

-- the next block of a fork
pub next_block : (rel : ℕ) (fork : Fork) (block : ℕ) (tag : Tag) → AreOfFork rel fork (block + 1) tag → AreOfFork rel fork block tag ⊎ AreOfBlock (tag_of_parts rel fork block) tag
next_block rel fork block tag of = by_number (true_or_false (nat_lt tag.block block))
  where
    by_number : (nat_lt tag.block block ≡ true) ⊎ (nat_lt tag.block block ≡ false) → AreOfFork rel fork block tag ⊎ AreOfBlock (tag_of_parts rel fork block) tag
    by_number (inl before) = inl (of.0, of.1, grind arith)
    by_number (inr here) = let last = of.2 in let e : tag.block ≡ block = grind (arith, last) in let r = of.0 in let f = of.1 in inr (λ k. tag_of_parts (r k) (f k) (e k))

pub earlier_block : (rel : ℕ) (fork : Fork) (block : ℕ) (tag : Tag) → AreOfFork rel fork block tag → AreOfFork rel fork (block + 1) tag
earlier_block rel fork block tag of = let below = of.2 in (of.0, of.1, omega (arith, below))

pub this_block : (rel : ℕ) (fork : Fork) (block : ℕ) (tag : Tag) → AreOfBlock (tag_of_parts rel fork block) tag → AreOfFork rel fork (block + 1) tag
this_block rel fork block tag is = (ap (λ (t : Tag). t.rel.0) is, ap (λ (t : Tag). t.fork) is, let e = ap (λ (t : Tag). t.block) is in omega (arith, e))

-- the count of a lane that was read in vain
pub rose_at : {L : Type 0} (f : L → ℕ) (tag : Tag) (ls : List L) (q : ℕ) (y d : L) → q ≡ lane_number tag (length ls) → q < length ls → Rose (f (get_or ls q d)) (f y) → RoseAt tag (length ls) (map f ls) (map f (set ls q y))
rose_at f tag ls q y d e below rose = record {
  count = f y;
  rose = subst (λ (n : ℕ). Rose n (f y)) (sym (get_or-map f ls q d 0 below) ∙ ap (λ (k : ℕ). get_or (map f ls) k 0) e) rose;
  others = map-set f ls q y ∙ ap (λ (k : ℕ). set (map f ls) k (f y)) e;
}

fork_back : (f : Fork) → fork_of_number (fork_number f) ≡ Some f
fork_back Main = refl
fork_back Fsm = refl
fork_back Vm = refl
fork_back Init = refl

same_fork : (f g : Fork) → fork_number f ≡ fork_number g → f ≡ g
same_fork f g e = let a = fork_back f in let b = fork_back g in let c = ap fork_of_number e in cc

-- the forks stand at their numbers
pub fork_at : (i : ℕ) (d : Fork) → i < 4 → fork_number (get_or (Main ∷ (Fsm ∷ (Vm ∷ (Init ∷ [])))) i d) ≡ i
fork_at zero d below = refl
fork_at (suc zero) d below = refl
fork_at (suc (suc zero)) d below = refl
fork_at (suc (suc (suc zero))) d below = refl
fork_at (suc (suc (suc (suc i)))) d below = absurd (omega arith)

fork_small : (f : Fork) → fork_number f < 4
fork_small Main = omega arith
fork_small Fsm = omega arith
fork_small Vm = omega arith
fork_small Init = omega arith

-- the blocks of the first forks, so many
abbrev pub forks_before : (Fork → ℕ) → ℕ → ℕ
forks_before blocks zero = 0
forks_before blocks (suc zero) = blocks Main
forks_before blocks (suc (suc zero)) = blocks Main + blocks Fsm
forks_before blocks (suc (suc (suc zero))) = blocks Main + (blocks Fsm + blocks Vm)
forks_before blocks (suc (suc (suc (suc n)))) = sum_of_forks blocks

forks_step : (blocks : Fork → ℕ) (f : Fork) → forks_before blocks (fork_number f) + blocks f ≡ forks_before blocks (fork_number f + 1)
forks_step blocks Main = omega arith
forks_step blocks Fsm = omega arith
forks_step blocks Vm = omega arith
forks_step blocks Init = omega arith

forks_within : (blocks : Fork → ℕ) (f : Fork) → forks_before blocks (fork_number f) + blocks f ≤ sum_of_forks blocks
forks_within blocks Main = omega arith
forks_within blocks Fsm = omega arith
forks_within blocks Vm = omega arith
forks_within blocks Init = omega arith

module _ (blocks : Fork → ℕ) (f : Fork) (i : ℕ) (at : fork_number f ≡ i) where
  pub next_fork_count : forks_before blocks i + blocks f ≡ forks_before blocks (i + 1)
  next_fork_count = subst (λ (k : ℕ). forks_before blocks k + blocks f ≡ forks_before blocks (k + 1)) at (forks_step blocks f)

  pub fork_count_within : forks_before blocks i + blocks f ≤ sum_of_forks blocks
  fork_count_within = subst (λ (k : ℕ). forks_before blocks k + blocks f ≤ sum_of_forks blocks) at (forks_within blocks f)

named : (t : Tag) → t.rel.0 < 1024 → t.block < 2 ^ 32 - 1 → names_block t ≡ true
named t few below = grind arith

module _ (catalog : List RelEntry) (rel : ℕ) (fork : Fork) (blocks : ℕ) (is : blocks ≡ blocks_at catalog rel fork) where
  fork_blocks : (tag : Tag) → tag.rel.0 ≡ rel → tag.fork ≡ fork → blocks_at catalog tag.rel.0 tag.fork ≡ blocks
  fork_blocks tag r f = ap (λ (n : ℕ). blocks_at catalog n tag.fork) r ∙ ap (blocks_at catalog rel) f ∙ sym is

  listed_block : (tag : Tag) → AreOfFork rel fork blocks tag → IsListed catalog tag
  listed_block tag of = lt-ltb tag.block (blocks_at catalog tag.rel.0 tag.fork) (let e = fork_blocks tag of.0 of.1 in let b = of.2 in omega (arith, e, b))

  pub listed_by_name : rel < 1024 → blocks < 2 ^ 32 → (tag : Tag) → AreOfFork rel fork blocks tag → IsListedByName catalog tag
  listed_by_name few small tag of = (named tag (let r = of.0 in omega (arith, r)) (let b = of.2 in omega (arith, b)), listed_block tag of)

  module _ (i : ℕ) (at : fork_number fork ≡ i) where
    pub earlier_fork : (tag : Tag) → AreOfForks catalog rel i tag → AreOfForks catalog rel (i + 1) tag
    earlier_fork tag of = (of.0, (let b = of.1 in omega (arith, b)), of.2)

    pub this_fork : (tag : Tag) → AreOfFork rel fork blocks tag → AreOfForks catalog rel (i + 1) tag
    this_fork tag of = (of.0, (let e = ap fork_number of.1 in omega (arith, e)), listed_block tag of)

    pub this_fork_of_relation : (tag : Tag) → AreOfFork rel fork blocks tag → AreOfRelation catalog rel tag
    this_fork_of_relation tag of = (of.0, listed_block tag of)

    pub next_fork : (tag : Tag) → AreOfForks catalog rel (i + 1) tag → AreOfForks catalog rel i tag ⊎ AreOfFork rel fork blocks tag
    next_fork tag of = by_number (true_or_false (nat_lt (fork_number tag.fork) i))
      where
        by_number : (nat_lt (fork_number tag.fork) i ≡ true) ⊎ (nat_lt (fork_number tag.fork) i ≡ false) → AreOfForks catalog rel i tag ⊎ AreOfFork rel fork blocks tag
        by_number (inl before) = inl (of.0, ltb-true (fork_number tag.fork) i before, of.2)
        by_number (inr here) =
            let last = of.1 in
            let number : fork_number tag.fork ≡ fork_number fork = grind (arith, last, at) in
            let f = same_fork tag.fork fork number in
            let e = fork_blocks tag of.0 f in
            let b = ltb-true tag.block (blocks_at catalog tag.rel.0 tag.fork) of.2 in
            inr (of.0, f, omega (arith, e, b))

pub all_forks : (catalog : List RelEntry) (rel : ℕ) (tag : Tag) → AreOfForks catalog rel 4 tag → AreOfRelation catalog rel tag
all_forks catalog rel tag of = (of.0, of.2)

pub among_forks : (catalog : List RelEntry) (rel : ℕ) (tag : Tag) → AreOfRelation catalog rel tag → AreOfForks catalog rel 4 tag
among_forks catalog rel tag of = (of.0, fork_small tag.fork, of.1)

-- the blocks of a catalogue's first relations
relation_counted : (es : List RelEntry) (r : ℕ) → r < length es → sum_by relation_blocks (take r es) + sum_of_forks (blocks_at es r) ≡ sum_by relation_blocks (take (suc r) es)
relation_counted [] r below = absurd (omega arith)
relation_counted (e ∷ es) zero below = let h = sum_by-cons relation_blocks e [] in omega (arith, h)
relation_counted (e ∷ es) (suc r) below =
    let h = sum_by-cons relation_blocks e (take r es) in
    let k = sum_by-cons relation_blocks e (take (suc r) es) in
    let i = relation_counted es r (omega arith) in
    omega (arith, h, k, i)

in_catalog : (es : List RelEntry) (r b : ℕ) (f : Fork) → nat_lt b (blocks_at es r f) ≡ true → r < length es
in_catalog [] r b f h = absurd (grind arith)
in_catalog (e ∷ es) zero b f h = omega arith
in_catalog (e ∷ es) (suc r) b f h = let i = in_catalog es r b f h in omega (arith, i)

module _ (catalog : List RelEntry) (r : ℕ) (below : r < length catalog) where
  pub next_relation_count : sum_by relation_blocks (take r catalog) + sum_of_forks (blocks_at catalog r) ≡ sum_by relation_blocks (take (r + 1) catalog)
  next_relation_count = let e : suc r ≡ r + 1 = omega arith in relation_counted catalog r below ∙ ap (λ (k : ℕ). sum_by relation_blocks (take k catalog)) e

  pub earlier_relation : (tag : Tag) → AreOfRelations catalog r tag → AreOfRelations catalog (r + 1) tag
  earlier_relation tag of = ((let b = of.0 in omega (arith, b)), of.1)

  pub this_relation : (tag : Tag) → AreOfRelation catalog r tag → AreOfRelations catalog (r + 1) tag
  this_relation tag of = ((let e = of.0 in omega (arith, e)), of.1)

  pub next_relation : (tag : Tag) → AreOfRelations catalog (r + 1) tag → AreOfRelations catalog r tag ⊎ AreOfRelation catalog r tag
  next_relation tag of = by_number (true_or_false (nat_lt tag.rel.0 r))
    where
      by_number : (nat_lt tag.rel.0 r ≡ true) ⊎ (nat_lt tag.rel.0 r ≡ false) → AreOfRelations catalog r tag ⊎ AreOfRelation catalog r tag
      by_number (inl before) = inl (ltb-true tag.rel.0 r before, of.1)
      by_number (inr here) = let last = of.0 in let e : tag.rel.0 ≡ r = grind (arith, last) in inr (e, of.1)

pub all_relations : (catalog : List RelEntry) (tag : Tag) → IsListed catalog tag → AreOfRelations catalog (length catalog) tag
all_relations catalog tag h = (in_catalog catalog tag.rel.0 tag.block tag.fork h, h)

-- where each listed block's page is known, the answer is 0 or the position of one of them
pub known_reached : (blocks : Tag → Type 0) (lanes : List (Option Pages)) (largest : ℕ) → ((tag : Tag) → blocks tag → (page : List ℕ) × IsSomeAnd (lane_at lanes tag) (λ pages. pages tag ≡ Some page))
    → IsLargestLsn blocks lanes largest → (largest ≡ 0) ⊎ ((tag : Tag) × (page : List ℕ) × blocks tag × IsSoundAt largest page)
known_reached blocks lanes largest known of = by_block of.reached
  where
    the_lane : (lane : Option Pages) (tag : Tag) (page : List ℕ) → IsSomeAnd lane (λ pages. pages tag ≡ Some page) → ForSome lane (λ pages. IsSomeAnd (pages tag) (IsSoundAt largest)) → IsSoundAt largest page
    the_lane None tag page is sound = absurd is
    the_lane (Some pages) tag page is sound = subst (λ (o : Option (List ℕ)). IsSomeAnd o (IsSoundAt largest)) is (sound pages refl)

    by_block : (largest ≡ 0) ⊎ ((tag : Tag) × IsLsnOf blocks lanes tag largest) → (largest ≡ 0) ⊎ ((tag : Tag) × (page : List ℕ) × blocks tag × IsSoundAt largest page)
    by_block (inl none) = inl none
    by_block (inr (tag, at)) = let k = known tag at.listed in inr (tag, k.0, at.listed, the_lane (lane_at lanes tag) tag k.0 k.1 at.page)
