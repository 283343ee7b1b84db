-- Texts that wait, and that are put.
use Rattle.std.proofs.Common.{◌≡◌, ℕ, zero, suc, ◌+◌, ◌<◌, ◌≤◌, ◌^◌, Bool, true, false, MatchBool, List, [], ◌∷◌, ◌++◌, length, get_or, set, drop, Option, Some, None, refl, sym, ap, ◌∙◌, subst, add-one, append_assoc, length-append, length-set, arith, lt_of_not-le, ⊎_elim}
use native.Mathlib.Decide.{dec_le}
use Rattle.std.specs.Prelude.{is_some, max, option_map, replicate}
use Rattle.std.proofs.lemmas.Bool.{cases_lt}
use Rattle.std.proofs.lemmas.List.{append-nil, length-replicate}
use Rattle.byte_devices.specs.Faults.{Rose}
use Rattle.text_window.specs.declared.window.Stop.{Stop}
use Rattle.text_window.specs.declared.window.Stop.TheVariants.{Output}
use Rattle.text_window.specs.Texts.{AreFirstTexts, AreWaiting, HasPut, HasPutSome, IsBroken, IsFinished, IsStream, IsTextBy, IsWindow, Job, is_output, waiting_count}

pub front_of : (P Q : ℕ → List ℕ → Type 0) (many : ℕ) (t : List ℕ) → ((k : ℕ) (s : List ℕ) → P k s → Q k s) → AreFirstTexts P many t → AreFirstTexts Q many t
front_of P Q zero t f h = h
front_of P Q (suc many) t f h = (h.0, h.1, h.2, front_of P Q many h.0 f h.3, f many h.1 h.4)

pub front_next : (P : ℕ → List ℕ → Type 0) (many : ℕ) (a x : List ℕ) → AreFirstTexts P many a → P many x → AreFirstTexts P (many + 1) (a ++ x)
front_next P many a x h p = subst (λ (k : ℕ). AreFirstTexts P k (a ++ x)) (sym (add-one many)) (a, x, refl, h, p)

count_behind : (ws : List (Option (List ℕ))) → waiting_count (ws ++ None ∷ []) ≡ waiting_count ws
count_behind [] = refl
count_behind (None ∷ ws) = count_behind ws
count_behind (Some t ∷ ws) = ap (λ (n : ℕ). 1 + n) (count_behind ws)

-- one text more waits
count_put : (ws : List (Option (List ℕ))) (k : ℕ) (t : List ℕ) → k < length ws → get_or ws k None ≡ None → waiting_count (set ws k (Some t)) ≡ waiting_count ws + 1
count_put [] k t low free = absurd (omega arith)
count_put (None ∷ ws) zero t low free = omega arith
count_put (Some u ∷ ws) zero t low free = absurd cc
count_put (None ∷ ws) (suc k) t low free = count_put ws k t (omega arith) free
count_put (Some u ∷ ws) (suc k) t low free = omega (arith, count_put ws k t (omega arith) free)

pub not_stopped : (s : Option Stop) → is_some s ≡ false → s ≡ None
not_stopped None e = refl
not_stopped (Some f) e = absurd (cc e)

module _ (texts : ℕ → ℕ → List ℕ → Type 0) (job : Job) where
  -- texts are others by a place that is no lower, if they are at each place
  text_by : (other : ℕ → ℕ → List ℕ → Type 0) (largest higher : ℕ) → ((p c : ℕ) (t : List ℕ) → texts p c t → other p c t) → largest ≤ higher → (c : ℕ) (t : List ℕ) → IsTextBy texts largest c t → IsTextBy other higher c t
  text_by other largest higher f le c t h = (h.0, omega (arith, h.1), f h.0 c t h.2)

  front_by : (other : ℕ → ℕ → List ℕ → Type 0) (largest higher n : ℕ) (t : List ℕ) → ((p c : ℕ) (t : List ℕ) → texts p c t → other p c t) → largest ≤ higher → AreFirstTexts (IsTextBy texts largest) n t → AreFirstTexts (IsTextBy other higher) n t
  front_by other largest higher n t f le h = front_of (IsTextBy texts largest) (IsTextBy other higher) n t (text_by other largest higher f le) h

  put_by : (other : ℕ → ℕ → List ℕ → Type 0) (largest higher n : ℕ) (bytes : Option (List ℕ)) → ((p c : ℕ) (t : List ℕ) → texts p c t → other p c t) → largest ≤ higher → HasPut texts job largest n bytes → HasPut other job higher n bytes
  put_by other largest higher n bytes f le h = record { front = h.front; is = front_by other largest higher n h.front f le h.is; bytes_are = h.bytes_are }

  some_by : (other : ℕ → ℕ → List ℕ → Type 0) (largest : ℕ) (output : Bool) (bytes : Option (List ℕ)) → ((p c : ℕ) (t : List ℕ) → texts p c t → other p c t) → HasPutSome texts job largest output bytes → HasPutSome other job largest output bytes
  some_by other largest true bytes f h = (
    h.0,
    record {
      front = h.1.front;
      is = front_by other largest largest h.0 h.1.front f (omega arith) h.1.is;
      within = h.1.within;
      piece = h.1.piece;
      text = text_by other largest largest f (omega arith) h.0 h.1.piece h.1.text;
      part = h.1.part;
    },
  )
  some_by other largest false bytes f h = (h.0, h.1, put_by other largest largest h.0 bytes f (omega arith) h.2)

  -- what the sink has of these texts, it has of others, if they are others
  pub finished_by : (other : ℕ → ℕ → List ℕ → Type 0) (delivered above : ℕ) (output : Bool) (bytes : Option (List ℕ)) → ((p c : ℕ) (t : List ℕ) → texts p c t → other p c t) → IsFinished texts job delivered above output bytes → IsFinished other job delivered above output bytes
  finished_by other delivered above output bytes f h = record {
    place = h.place;
    at_base = h.at_base;
    some = some_by other h.place output bytes f h.some;
    whole = λ on all. put_by other h.place h.place job.chunks bytes f (omega arith) (h.whole on all);
  }

  waiting_behind : (largest c : ℕ) (ws : List (Option (List ℕ))) → AreWaiting texts job largest c ws → AreWaiting texts job largest c (ws ++ None ∷ [])
  waiting_behind largest c [] h = tt
  waiting_behind largest c (None ∷ ws) h = waiting_behind largest (c + 1) ws h
  waiting_behind largest c (Some t ∷ ws) h = (h.0, h.1, waiting_behind largest (c + 1) ws h.2)

  -- the largest place has risen, or is as it was
  waiting_higher : (largest higher c : ℕ) (ws : List (Option (List ℕ))) → largest ≤ higher → AreWaiting texts job largest c ws → AreWaiting texts job higher c ws
  waiting_higher largest higher c [] le h = tt
  waiting_higher largest higher c (None ∷ ws) le h = waiting_higher largest higher (c + 1) ws le h
  waiting_higher largest higher c (Some t ∷ ws) le h = (h.0, text_by texts largest higher (λ p d s is. is) le c t h.1, waiting_higher largest higher (c + 1) ws le h.2)

  waiting_put : (largest c k : ℕ) (ws : List (Option (List ℕ))) (t : List ℕ) → k < length ws → get_or ws k None ≡ None → c + k < job.chunks → IsTextBy texts largest (c + k) t → AreWaiting texts job largest c ws → AreWaiting texts job largest c (set ws k (Some t))
  waiting_put largest c k [] t low free within is h = absurd (omega arith)
  waiting_put largest c zero (None ∷ ws) t low free within is h = let z : c + zero ≡ c = omega arith in
      (omega arith, subst (λ (n : ℕ). IsTextBy texts largest n t) z is, h)
  waiting_put largest c zero (Some u ∷ ws) t low free within is h = absurd cc
  waiting_put largest c (suc k) (None ∷ ws) t low free within is h = let z : c + suc k ≡ c + 1 + k = omega arith in
      waiting_put largest (c + 1) k ws t (omega arith) free (omega arith) (subst (λ (n : ℕ). IsTextBy texts largest n t) z is) h
  waiting_put largest c (suc k) (Some u ∷ ws) t low free within is h = let z : c + suc k ≡ c + 1 + k = omega arith in
      (h.0, h.1, waiting_put largest (c + 1) k ws t (omega arith) free (omega arith) (subst (λ (n : ℕ). IsTextBy texts largest n t) z is) h.2)

  -- The first text, which is the next one, and what is left without it
  pub record Takes (largest c : ℕ) (ws left : List (Option (List ℕ))) (t : List ℕ) : Type 0 where
    pub within : c < job.chunks
    pub text : IsTextBy texts largest c t
    pub more : AreWaiting texts job largest (c + 1) (drop 1 left ++ None ∷ [])
    pub count : waiting_count (drop 1 left ++ None ∷ []) + 1 ≡ waiting_count ws
    pub wide : length (drop 1 left ++ None ∷ []) ≡ length ws

  takes : (largest c : ℕ) (ws : List (Option (List ℕ))) (t : List ℕ) → get_or ws 0 None ≡ Some t → AreWaiting texts job largest c ws → Takes largest c ws (set ws 0 None) t
  takes largest c [] t first h = absurd cc
  takes largest c (None ∷ ws) t first h = absurd cc
  takes largest c (Some u ∷ ws) t first h = let same : u ≡ t = cc in record {
    within = h.0;
    text = subst (IsTextBy texts largest c) same h.1;
    more = waiting_behind largest (c + 1) ws h.2;
    count = omega (arith, count_behind ws);
    wide = omega (arith, length-append ws (None ∷ []));
  }

  longer : (before : Option (List ℕ)) (a x : List ℕ) → option_map (λ b. b ++ x) (option_map (λ b. b ++ a) before) ≡ option_map (λ b. b ++ (a ++ x)) before
  longer None a x = refl
  longer (Some b) a x = ap Some (append_assoc b a x)

  puts_next : (largest n : ℕ) (x : List ℕ) (old new : Option (List ℕ)) → HasPut texts job largest n old → IsTextBy texts largest n x → new ≡ option_map (λ b. b ++ x) old → HasPut texts job largest (n + 1) new
  puts_next largest n x old new h is put = record {
    front = h.front ++ x;
    is = front_next (IsTextBy texts largest) n h.front x h.is is;
    bytes_are = put ∙ ap (option_map (λ b. b ++ x)) h.bytes_are ∙ longer job.before h.front x;
  }

  -- no more texts wait than there are chunks from here on
  waiting_few : (largest c : ℕ) (ws : List (Option (List ℕ))) → AreWaiting texts job largest c ws → (c ≤ job.chunks → waiting_count ws + c ≤ job.chunks) × (job.chunks ≤ c → waiting_count ws ≡ 0)
  waiting_few largest c [] h = ((λ le. omega arith), (λ le. refl))
  waiting_few largest c (None ∷ ws) h = let rest = waiting_few largest (c + 1) ws h in
      ((λ le. elim (dec_le job.chunks c) as (λ _. waiting_count ws + c ≤ job.chunks) [ yes d ↦ omega (arith, rest.1 (omega arith)) | no d ↦ omega (arith, rest.0 (omega (arith, lt_of_not-le d))) ]), (λ le. rest.1 (omega arith)))
  waiting_few largest c (Some t ∷ ws) h = let rest = waiting_few largest (c + 1) ws h.2 in
      ((λ le. omega (arith, h.0, rest.0 (omega (arith, h.0)))), (λ le. absurd (omega (arith, h.0))))

  -- where as many were delivered as there are chunks, all are put
  all_put : (largest next : ℕ) (ws : List (Option (List ℕ))) → get_or ws 0 None ≡ None → AreWaiting texts job largest next ws → next ≤ job.chunks → next + waiting_count ws ≡ job.chunks → next ≡ job.chunks
  all_put largest next [] first h le all = omega arith
  all_put largest next (None ∷ ws) first h le all = let rest = waiting_few largest (next + 1) ws h in
      elim (dec_le job.chunks next) as (λ _. next ≡ job.chunks) [ yes d ↦ omega arith | no d ↦ absurd (omega (arith, rest.0 (omega (arith, lt_of_not-le d)))) ]
  all_put largest next (Some t ∷ ws) first h le all = absurd cc

  -- What is left of a stream after a put
  pub record PutsOne (largest next : ℕ) (ws more : List (Option (List ℕ))) (new : Option (List ℕ)) : Type 0 where
    pub stream : IsStream texts job largest (next + 1) more new
    pub counted : next + 1 + waiting_count more ≡ next + waiting_count ws
    pub fewer : waiting_count more < waiting_count ws

  pub puts_one : (largest next : ℕ) (ws left more : List (Option (List ℕ))) (text piece : List ℕ) (old new : Option (List ℕ)) → IsStream texts job largest next ws old
      → get_or ws 0 None ≡ Some text → left ≡ set ws 0 None → more ≡ drop 1 left ++ None ∷ [] → piece ≡ text → new ≡ option_map (λ b. b ++ piece) old → PutsOne largest next ws more new
  puts_one largest next ws left more text piece old new s first taken shifted same put =
      let t = takes largest next ws text first s.each in
      let is : drop 1 (set ws 0 None) ++ None ∷ [] ≡ more = ap (λ (l : List (Option (List ℕ))). drop 1 l ++ None ∷ []) (sym taken) ∙ sym shifted in
      subst (λ (l : List (Option (List ℕ))). PutsOne largest next ws l new) is record {
        stream = record {
          wide = t.wide ∙ s.wide;
          some = s.some;
          within = omega (arith, t.within);
          each = t.more;
          put = puts_next largest next text old new s.put t.text (put ∙ ap (λ (x : List ℕ). option_map (λ b. b ++ x) old) same);
        };
        counted = omega (arith, t.count);
        fewer = omega (arith, t.count);
      }

  abbrev no_texts : ℕ → List (Option (List ℕ))
  no_texts n = replicate n None

  none_waits : (largest c n : ℕ) → AreWaiting texts job largest c (no_texts n)
  none_waits largest c zero = tt
  none_waits largest c (suc n) = none_waits largest (c + 1) n

  none_first : (n : ℕ) → get_or (no_texts n) 0 None ≡ None
  none_first zero = refl
  none_first (suc n) = refl

  none_counted : (n : ℕ) → waiting_count (no_texts n) ≡ 0
  none_counted zero = refl
  none_counted (suc n) = none_counted n

  appended_nothing : (b : Option (List ℕ)) → b ≡ option_map (λ l. l ++ []) b
  appended_nothing None = refl
  appended_nothing (Some l) = ap Some (sym (append-nil l))

  -- before the job
  pub opens_window : (width : ℕ) (ws : List (Option (List ℕ))) (bytes : Option (List ℕ)) (faults delivered above : ℕ) → ws ≡ no_texts width → job.width ≡ width → 0 < width → job.chunks < 2 ^ 32 → job.before ≡ bytes → job.faults ≡ faults → delivered ≡ 0 → above ≡ 0
      → IsWindow texts job None job.base 0 ws bytes faults delivered above
  opens_window width ws bytes faults delivered above is wide some few before was none low = subst (λ (l : List (Option (List ℕ))). IsWindow texts job None job.base 0 l bytes faults delivered above) (sym is) record {
    few = few;
    lowest = omega arith;
    first = none_first width;
    at_base = λ e. refl;
    course = (
      record {
        wide = length-replicate width None ∙ sym wide;
        some = omega (arith, wide, some);
        within = omega arith;
        each = none_waits job.base 0 width;
        put = record { front = []; is = refl; bytes_are = sym before ∙ appended_nothing job.before };
      },
      sym was,
      omega (arith, none, none_counted width),
    );
  }

  -- the stream of a window in which no put failed
  stream_of : (stop : Option Stop) (largest next : ℕ) (ws : List (Option (List ℕ))) (bytes : Option (List ℕ)) (faults delivered above : ℕ) → IsWindow texts job stop largest next ws bytes faults delivered above → is_output stop ≡ false
      → IsStream texts job largest next ws bytes × (faults ≡ job.faults) × (delivered ≡ next + waiting_count ws)
  stream_of stop largest next ws bytes faults delivered above w on =
      subst (λ (b : Bool). MatchBool b (IsBroken texts job largest next ws bytes × Rose job.faults faults) (IsStream texts job largest next ws bytes × (faults ≡ job.faults) × (delivered ≡ next + waiting_count ws))) on w.course

  -- the largest place is the base, if no text was read past that
  at_base : (largest higher place above above' : ℕ) → higher ≡ max largest place → (above ≡ 0 → largest ≡ job.base) → above ≤ above' → (job.base < place → 0 < above') → above' ≡ 0 → higher ≡ job.base
  at_base largest higher place above above' high low later past e =
      ⊎_elim (λ (x : job.base < place). absurd (omega (arith, past x, e))) (λ (x : place ≤ job.base). omega (arith, high, low (omega (arith, e, later)), x)) (cases_lt job.base place)

  -- a text comes in
  pub takes_in : (stop : Option Stop) (largest higher next k chunk place : ℕ) (ws more : List (Option (List ℕ))) (text : List ℕ) (bytes : Option (List ℕ)) (faults delivered above : ℕ)
      → IsWindow texts job stop largest next ws bytes faults delivered above → is_output stop ≡ false → chunk ≡ next + k → chunk < job.chunks → texts place chunk text
      → k < length ws → get_or ws k None ≡ None → more ≡ set ws k (Some text) → higher ≡ max largest place
      → IsStream texts job higher next more bytes × (waiting_count more ≡ waiting_count ws + 1)
  takes_in stop largest higher next k chunk place ws more text bytes faults delivered above w on at within is low free put high =
      let s = (stream_of stop largest next ws bytes faults delivered above w on).0 in
      let le : largest ≤ higher = omega (arith, high) in
      let here : IsTextBy texts higher (next + k) text = (place, omega (arith, high), subst (λ (n : ℕ). texts place n text) at is) in
      subst (λ (l : List (Option (List ℕ))). IsStream texts job higher next l bytes × (waiting_count l ≡ waiting_count ws + 1)) (sym put) (
        record {
          wide = length-set ws k (Some text) ∙ s.wide;
          some = s.some;
          within = s.within;
          each = waiting_put higher next k ws text low free (omega (arith, at, within)) here (waiting_higher largest higher next ws le s.each);
          put = put_by texts largest higher next bytes (λ p c t h. h) le s.put;
        },
        count_put ws k text low free,
      )

  -- the window after a text was delivered
  pub goes_on : (stop : Option Stop) (largest higher next next' place : ℕ) (ws more ws' : List (Option (List ℕ))) (bytes bytes' : Option (List ℕ)) (faults faults' delivered delivered' above above' : ℕ)
      → IsWindow texts job stop largest next ws bytes faults delivered above → is_output stop ≡ false → higher ≡ max largest place → waiting_count more ≡ waiting_count ws + 1
      → IsStream texts job higher next' ws' bytes' → faults' ≡ faults → next' + waiting_count ws' ≡ next + waiting_count more → get_or ws' 0 None ≡ None
      → delivered' ≡ delivered + 1 → (job.base < place → 0 < above') → above ≤ above'
      → IsWindow texts job stop higher next' ws' bytes' faults' delivered' above'
  goes_on stop largest higher next next' place ws more ws' bytes bytes' faults faults' delivered delivered' above above' w on high one s same counted first more_delivered past later =
      let c = stream_of stop largest next ws bytes faults delivered above w on in
      let low_base = w.lowest in record {
        few = w.few;
        lowest = omega (arith, high, low_base);
        first = first;
        at_base = at_base largest higher place above above' high w.at_base later past;
        course = subst (λ (b : Bool). MatchBool b (IsBroken texts job higher next' ws' bytes' × Rose job.faults faults') (IsStream texts job higher next' ws' bytes' × (faults' ≡ job.faults) × (delivered' ≡ next' + waiting_count ws'))) (sym on) (s, same ∙ c.1, omega (arith, more_delivered, c.2, counted, one));
      }

  -- and where a put failed
  pub breaks : (stop : Option Stop) (largest higher next next' place : ℕ) (ws ws' : List (Option (List ℕ))) (bytes bytes' : Option (List ℕ)) (faults faults' delivered delivered' above above' : ℕ)
      → IsWindow texts job stop largest next ws bytes faults delivered above → is_output stop ≡ false → higher ≡ max largest place
      → IsBroken texts job higher next' ws' bytes' → Rose faults faults' → get_or ws' 0 None ≡ None
      → (job.base < place → 0 < above') → above ≤ above'
      → IsWindow texts job (Some Output) higher next' ws' bytes' faults' delivered' above'
  breaks stop largest higher next next' place ws ws' bytes bytes' faults faults' delivered delivered' above above' w on high s rose first past later =
      let c = stream_of stop largest next ws bytes faults delivered above w on in
      let low_base = w.lowest in record {
        few = w.few;
        lowest = omega (arith, high, low_base);
        first = first;
        at_base = at_base largest higher place above above' high w.at_base later past;
        course = (s, subst (λ (n : ℕ). Rose n faults') c.1 rose);
      }

  all_there : (stop : Option Stop) (largest next : ℕ) (ws : List (Option (List ℕ))) (bytes : Option (List ℕ)) (faults delivered above : ℕ) → IsWindow texts job stop largest next ws bytes faults delivered above
      → is_output stop ≡ false → delivered ≡ job.chunks → HasPut texts job largest job.chunks bytes
  all_there stop largest next ws bytes faults delivered above w on all =
      let c = stream_of stop largest next ws bytes faults delivered above w on in
      subst (λ (n : ℕ). HasPut texts job largest n bytes) (all_put largest next ws w.first c.0.each c.0.within (omega (arith, c.2, all))) c.0.put

  some_there : (b : Bool) (largest next : ℕ) (ws : List (Option (List ℕ))) (bytes : Option (List ℕ)) (faults delivered : ℕ)
      → MatchBool b (IsBroken texts job largest next ws bytes × Rose job.faults faults) (IsStream texts job largest next ws bytes × (faults ≡ job.faults) × (delivered ≡ next + waiting_count ws)) → HasPutSome texts job largest b bytes
  some_there true largest next ws bytes faults delivered c = (next, c.0.put)
  some_there false largest next ws bytes faults delivered c = (next, c.0.within, c.0.put)

  -- after the job
  pub is_finished : (stop : Option Stop) (largest next : ℕ) (ws : List (Option (List ℕ))) (bytes : Option (List ℕ)) (faults delivered above : ℕ) → IsWindow texts job stop largest next ws bytes faults delivered above
      → IsFinished texts job delivered above (is_output stop) bytes
  is_finished stop largest next ws bytes faults delivered above w = record {
    place = largest;
    at_base = w.at_base;
    some = some_there (is_output stop) largest next ws bytes faults delivered w.course;
    whole = all_there stop largest next ws bytes faults delivered above w;
  }
