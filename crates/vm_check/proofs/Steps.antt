-- One step of what goes through the words or the pairs of a page, or through the pages.
use Rattle.std.proofs.Common.{◌≡◌, ℕ, ◌+◌, ◌<◌, length, get_or, drop, ◌&&◌, leb, ltb}
use Rattle.std.proofs.lemmas.List.{at_drop_more}
use Rattle.vm_map.specs.Map.{Pairs}
use Rattle.vm_tree_model.specs.Walk.{rises, names_pages}

pub rises_step : (m : Pairs) (i key least high : ℕ) → i < length m → key ≡ (get_or m i (0, 0)).0
    → rises least high (drop i m) ≡ (leb least key && ltb key high && rises (key + 1) high (drop (i + 1) m))
rises_step m i key least high lt is =
    let more : rises least high
    (drop i m) ≡ (leb least (get_or m i (0, 0)).0 && ltb (get_or m i (0, 0)).0 high && rises
    ((get_or m i (0, 0)).0 + 1) high (drop (i + 1) m)) = at_drop_more (λ (l : Pairs). rises least high l) m i
    (0, 0) lt in
    rw is more

pub names_step : (m : Pairs) (i value pages : ℕ) → i < length m → value ≡ (get_or m i (0, 0)).1
    → names_pages pages (drop i m) ≡ (leb 1 value && ltb value pages && names_pages pages (drop (i + 1) m))
names_step m i value pages lt is =
    let more : names_pages pages
    (drop i m) ≡ (leb 1 (get_or m i (0, 0)).1 && ltb (get_or m i (0, 0)).1 pages && names_pages pages
    (drop (i + 1) m)) = at_drop_more (names_pages pages) m i (0, 0) lt in
    rw is more
