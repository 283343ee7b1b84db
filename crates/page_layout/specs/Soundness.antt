-- Which pages are new, and which are sound.
use Rattle.std.specs.Prelude.{◌≡◌, ℕ, Bool, true, false, length, not, ◌&&◌, ◌||◌, ◌==◌, ◌%◌, nat_lt}
use Rattle.std.specs.Prelude.{nat_le, List}
use Rattle.std.specs.List.{list_all}
use Rattle.page_layout.specs.declared.page.Header.{Header}
use Rattle.page_layout.specs.Fields.{header_of}

-- all bytes are 0
unfoldable pub is_new_page : List ℕ → Bool
is_new_page page = list_all (λ b. b == 0) page

-- the upper end isn't 0, no flag but 1, 2 and 4 is set, and lower end, upper end, special space and
-- the page's end stand in this order, the special space on a multiple of 8
abbrev pub is_sound_header : Header → Bool
is_sound_header h =
    not (h.upper == 0)
    && (nat_lt h.flags 8
    && (nat_le h.lower h.upper
    && (nat_le h.upper h.special && (nat_le h.special 8192 && h.special % 8 == 0))))

-- new, or with a sound header
unfoldable pub is_sound_page : List ℕ → Bool
is_sound_page page = is_new_page page || is_sound_header (header_of page)

-- sound and not new
pub record IsUsedPage (page : List ℕ) : Type 0 where
  pub size : length page ≡ 8192
  pub sound : is_sound_page page ≡ true
  pub used : is_new_page page ≡ false
