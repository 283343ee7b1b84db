-- Any bytes are read as some log: whether a record is well formed can be told.
use Rattle.std.proofs.Common.{◌≡◌, ◌≢◌, ◌⊎◌, inl, inr, ℕ, zero, suc, ◌+◌, ◌-◌, ◌%◌, ◌<◌, ◌≤◌, ◌^◌, Bool, true, false, List, [], ◌∷◌, ◌++◌, length, take, drop, Option, Some, None, sym, refl, ap, ◌∙◌, subst, ⊎_elim, arith}
use Rattle.std.proofs.lemmas.Bool.{cases_lt}
use Rattle.std.proofs.lemmas.List.{length-drop}
use Rattle.std.proofs.lemmas.Slice.Eq.{bytes_eq-Decides}
use Rattle.std.specs.Str.{bytes_eq}
use mathlib.Core.Logic.{dite}
use native.Mathlib.Decide.{ℕ_discrete}
use Rattle.block_tag.specs.declared.tag.Fork.{Fork}
use Rattle.block_tag.specs.declared.tag.Tag.{Tag}
use Rattle.block_tag.specs.declared.tag.Fork.TheVariants.{Main, Fsm, Vm, Init}
use Rattle.block_tag.specs.declared.catalogue.RelEntry.{RelEntry}
use Rattle.block_tag.specs.Names.{fork_number, fork_of_number, packed_tag}
use Rattle.page_layout.specs.Fields.{number_at, lsn_of}
use Rattle.page_layout.specs.Soundness.{is_new_page, is_sound_page}
use Rattle.history_core.specs.Log.{Entry, IsImage, image, change_size, record_size, end_of}
use Rattle.history_core.specs.State.{last_position}
use Rattle.log_recovery.specs.Records.{IsAtPlace, NamesBlock, IsRecord, IsImageRecord, Reads, IsHead, too_short, from_head, log_mark}
use Rattle.log_recovery.specs.Laws.{AreReadSomehow}
use Rattle.log_recovery.proofs.Named.{fork_back}
use Rattle.log_recovery.proofs.Prefix.{image_size, none_short, no_room}
use Rattle.log_recovery.proofs.Shown.{shown}

-- it holds, or it doesn't
abbrev Decided : Type 0 → Type 0
Decided P = P ⊎ (P → ⊥)

same_number : (a b : ℕ) → Decided (a ≡ b)
same_number a b = dite (ℕ_discrete a b) (λ (e : a ≡ b). inl e) (λ (o : a ≢ b). inr o)

is_low : (a b : ℕ) → Decided (a < b)
is_low a b = ⊎_elim (λ (low : a < b). inl low) (λ (ge : b ≤ a). inr (λ low. omega arith)) (cases_lt a b)

is_true : (b : Bool) → Decided (b ≡ true)
is_true true = inl refl
is_true false = inr (λ e. cc)

is_false : (b : Bool) → Decided (b ≡ false)
is_false false = inl refl
is_false true = inr (λ e. cc)

same_bytes : (a b : List ℕ) → Decided (a ≡ b)
same_bytes a b = ⊎_elim (λ (e : bytes_eq a b ≡ true). inl ((bytes_eq-Decides a b).0 e)) (λ (o : bytes_eq a b ≡ true → ⊥). inr (λ e. o ((bytes_eq-Decides a b).1 e))) (is_true (bytes_eq a b))

-- of both
both : {A B : Type 0} → Decided A → Decided B → Decided (A × B)
both (inl a) (inl b) = inl (a, b)
both (inl a) (inr none) = inr (λ h. none h.1)
both (inr none) b = inr (λ h. none h.0)

-- which follows from each other
alike : {A B : Type 0} → (A → B) → (B → A) → Decided A → Decided B
alike to back (inl a) = inl (to a)
alike to back (inr none) = inr (λ b. none (back b))

-- the relation with these numbers
has_place : (relations : List RelEntry) (a b c : ℕ) → Decided ((n : ℕ) × IsAtPlace relations a b c n)
has_place [] a b c = inr (λ h. let e : None ≡ Some h.1.relation = h.1.listed in cc)
has_place (r ∷ relations) a b c = ⊎_elim
    (λ (x : (r.tablespace ≡ a) × ((r.database ≡ b) × (r.relation ≡ c))). inl (0, record { relation = r; listed = refl; tablespace_is = x.0; database_is = x.1.0; number_is = x.1.1 }))
    (λ (other : (r.tablespace ≡ a) × ((r.database ≡ b) × (r.relation ≡ c)) → ⊥). alike
    (λ (x : (n : ℕ) × IsAtPlace relations a b c n). (suc x.0, record { relation = x.1.relation; listed = x.1.listed; tablespace_is = x.1.tablespace_is; database_is = x.1.database_is; number_is = x.1.number_is }))
    (λ (x : (n : ℕ) × IsAtPlace (r ∷ relations) a b c n). later x.0 x.1 other)
    (has_place relations a b c))
    (both (same_number r.tablespace a) (both (same_number r.database b) (same_number r.relation c)))
  where
    later : (n : ℕ) → IsAtPlace (r ∷ relations) a b c n → ((r.tablespace ≡ a) × ((r.database ≡ b) × (r.relation ≡ c)) → ⊥) → (m : ℕ) × IsAtPlace relations a b c m
    later zero h other = let same : r ≡ h.relation = (let e : Some r ≡ Some h.relation = h.listed in cc) in
        absurd (other (ap (λ (x : RelEntry). x.tablespace) same ∙ h.tablespace_is, (ap (λ (x : RelEntry). x.database) same ∙ h.database_is, ap (λ (x : RelEntry). x.relation) same ∙ h.number_is)))
    later (suc m) h other = (m, record { relation = h.relation; listed = h.listed; tablespace_is = h.tablespace_is; database_is = h.database_is; number_is = h.number_is })

fork_is : (f : Fork) → fork_of_number (fork_number f) ≡ Some f
fork_is Main = refl
fork_is Fsm = refl
fork_is Vm = refl
fork_is Init = refl

has_fork : (n : ℕ) → Decided ((f : Fork) × (n ≡ fork_number f))
has_fork n = of_fork (fork_of_number n) refl
  where
    of_fork : (o : Option Fork) → fork_of_number n ≡ o → Decided ((f : Fork) × (n ≡ fork_number f))
    of_fork (Some f) is = inl (f, fork_back n f is)
    of_fork None is = inr (λ h. let e : None ≡ Some h.0 = sym is ∙ ap fork_of_number h.1 ∙ fork_is h.0 in cc)

module _ (relations : List RelEntry) (bytes : List ℕ) where
  abbrev relation_there : Type 0
  relation_there = (n : ℕ) × IsAtPlace relations (number_at 4 4 bytes) (number_at 8 4 bytes) (number_at 12 4 bytes) n

  abbrev fork_there : Type 0
  fork_there = (f : Fork) × (number_at 16 4 bytes ≡ fork_number f)

  names_a_block : Decided ((word : ℕ) × NamesBlock relations bytes word)
  names_a_block = alike to back (both (has_place relations (number_at 4 4 bytes) (number_at 8 4 bytes) (number_at 12 4 bytes)) (both (has_fork (number_at 16 4 bytes)) (is_low (number_at 20 4 bytes) (2 ^ 32 - 1))))
    where
      to : relation_there × (fork_there × (number_at 20 4 bytes < 2 ^ 32 - 1)) → (word : ℕ) × NamesBlock relations bytes word
      to x = let tag : Tag = record { rel = record { 0 = x.0.0 }; fork = x.1.0.0; block = number_at 20 4 bytes } in (
        packed_tag tag,
        record {
          tag = tag;
          is = refl;
          relation = x.0.1.relation;
          listed = x.0.1.listed;
          tablespace = sym x.0.1.tablespace_is;
          database = sym x.0.1.database_is;
          number = sym x.0.1.number_is;
          fork = x.1.0.1;
          block = refl;
          low = x.1.1;
        },
      )

      back : (word : ℕ) × NamesBlock relations bytes word → relation_there × (fork_there × (number_at 20 4 bytes < 2 ^ 32 - 1))
      back (word, h) = (
        (h.tag.rel.0, record { relation = h.relation; listed = h.listed; tablespace_is = sym h.tablespace; database_is = sym h.database; number_is = sym h.number }),
        ((h.tag.fork, h.fork), subst (λ (n : ℕ). n < 2 ^ 32 - 1) (sym h.block) h.low),
      )

has_image : (end : ℕ) (page : List ℕ) → Decided (IsImage end page)
has_image end page = alike
    (λ (x : (is_sound_page page ≡ true) × ((is_new_page page ≡ false) × ((length page ≡ 8192) × (lsn_of page ≡ end)))). record { sound = x.0; used = x.1.0; full = x.1.1.0; ends = x.1.1.1 })
    (λ (x : IsImage end page). (x.sound, (x.used, (x.full, x.ends))))
    (both (is_true (is_sound_page page)) (both (is_false (is_new_page page)) (both (same_number (length page) 8192) (same_number (lsn_of page) end))))

module _ (relations : List RelEntry) where
  image_record : (from : ℕ) (bytes : List ℕ) → Decided (IsImageRecord relations from bytes)
  image_record from bytes = let page : List ℕ = take 8192 (drop 32 bytes) in alike
      (λ (x : (number_at 0 4 bytes ≡ 1) × ((number_at 24 8 bytes ≡ from) × (((word : ℕ) × NamesBlock relations bytes word) × IsImage (from + record_size) page))). record { kind = x.0; position = x.1.0; word = x.1.1.0.0; named = x.1.1.0.1; image = x.1.1.1 })
      (λ (x : IsImageRecord relations from bytes). (x.kind, (x.position, ((x.word, x.named), x.image))))
      (both (same_number (number_at 0 4 bytes) 1) (both (same_number (number_at 24 8 bytes) from) (both (names_a_block relations bytes) (has_image (from + record_size) page))))

  abbrev IsSomeRecord : ℕ → List Entry → List ℕ → Type 0
  IsSomeRecord from before bytes = (e : Entry) × IsRecord relations from before bytes e

  decide_record : (from : ℕ) (before : List Entry) (bytes : List ℕ) → Decided (IsSomeRecord from before bytes)
  decide_record from before bytes = ⊎_elim
      (λ (high : last_position < from + record_size). inr (λ x. no_room relations from before bytes x.0 high x.1))
      (λ (room : from + record_size ≤ last_position). ⊎_elim
      (λ (short : length bytes < record_size). inr (λ x. none_short relations from before bytes x.0 short x.1))
      (λ (whole : record_size ≤ length bytes). alike (to room whole) (λ (x : IsSomeRecord from before bytes). shown relations from before bytes x.0 x.1) (image_record from bytes))
      (cases_lt (length bytes) record_size))
      (cases_lt last_position (from + record_size))
    where
      to : from + record_size ≤ last_position → record_size ≤ length bytes → IsImageRecord relations from bytes → IsSomeRecord from before bytes
      to room whole x = (
        record { start = from; backend = 0; change = image x.word (take 8192 (drop 32 bytes)) },
        record {
          backend = refl;
          starts = refl;
          whole = whole;
          kind = x.kind;
          position = x.position;
          change = (x.named, refl);
          valid = x.image;
          room = room;
          follows = tt;
        },
      )

  -- no more than n bytes
  reads_some : (n from : ℕ) (before : List Entry) (bytes : List ℕ) → length bytes ≤ n → (es : List Entry) × Reads relations from before bytes es
  unfolding Reads
  reads_some zero from before bytes few = ([], λ e r. none_short relations from before bytes e (omega (arith, few)) r)
  reads_some (suc n) from before bytes few = ⊎_elim
      (λ (x : IsSomeRecord from before bytes).
      let size = image_size relations bytes x.0.change x.1.change in
      let whole = x.1.whole in
      let less = length-drop (change_size x.0.change) bytes in
      let rest = reads_some n (end_of x.0) (before ++ x.0 ∷ []) (drop (change_size x.0.change) bytes) (omega (arith, few, size, whole, less)) in
      (x.0 ∷ rest.0, (x.1, rest.1)))
      (λ (none : IsSomeRecord from before bytes → ⊥). ([], λ e r. none (e, r)))
      (decide_record from before bytes)

has_head : (bytes : List ℕ) → 16 ≤ length bytes → Decided ((base : ℕ) × IsHead bytes base)
has_head bytes long = alike
    (λ (x : (take 8 bytes ≡ log_mark) × ((number_at 8 8 bytes % 8 ≡ 0) × (number_at 8 8 bytes < last_position + 1))). (number_at 8 8 bytes, record { long = long; mark = x.0; base_is = refl; aligned = x.1.0; low = (let low = x.1.1 in omega (arith, low)) }))
    (λ (x : (base : ℕ) × IsHead bytes base). (x.1.mark, (ap (λ (n : ℕ). n % 8) x.1.base_is ∙ x.1.aligned, (let is = x.1.base_is in let low = x.1.low in omega (arith, is, low)))))
    (both (same_bytes (take 8 bytes) log_mark) (both (same_number (number_at 8 8 bytes % 8) 0) (is_low (number_at 8 8 bytes) (last_position + 1))))

pub read_somehow : AreReadSomehow
read_somehow relations bytes good = ⊎_elim
    (λ (short : length bytes < 16). (record { base = 0; entries = [] }, too_short short))
    (λ (long : 16 ≤ length bytes). ⊎_elim
    (λ (x : (base : ℕ) × IsHead bytes base). let es = reads_some relations (length bytes) x.0 [] (drop 16 bytes) (let less = length-drop 16 bytes in omega (arith, less)) in (record { base = x.0; entries = es.0 }, from_head x.0 es.0 x.1 es.1))
    (λ (none : (base : ℕ) × IsHead bytes base → ⊥). absurd (good (long, λ base head. none (base, head))))
    (has_head bytes long))
    (cases_lt (length bytes) 16)
