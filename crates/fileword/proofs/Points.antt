-- The words of points and of sightings: what stands where, and back.
use Rattle.std.proofs.Common.{◌≡◌, ℕ, zero, suc, ◌+◌, ◌*◌, ◌^◌, ◌<◌, ◌⊎◌, List, [], ◌∷◌, length, get_or, refl, ap, ◌∙◌, ap₂, inl, inr, arith}
use Rattle.std.specs.List.{flat_map}
use Rattle.plex.specs.Distance.{Point, Sighting}
use Rattle.fileword.specs.Layout.{kind, upper, lower, fourteen_bits, coordinate, word, point_words, point_of}
use Rattle.fileword.specs.Files.{OnDome, sighting_words}
use Rattle.fileword.proofs.Words.{kind_word, kind_fields, upper_fields, lower_fields, fields_back, upper_field, lower_field, field_back}
use Rattle.fileword.proofs.Coordinates.{coordinate_within, bits_of_coordinate, bits_below, coordinate_of_bits}

-- two words give a point of the dome
pub point_on_dome : (v w : ℕ) → OnDome (point_of v w)
point_on_dome v w =
    (coordinate_within (upper v) (omega arith), coordinate_within (lower v) (omega arith), coordinate_within (lower w) (omega arith))

-- and it is written as these two words
pub point_written : (k v w : ℕ) → kind v ≡ k → kind w ≡ k + 1 → upper w ≡ 0 → point_words k (point_of v w) ≡ v ∷ w ∷ []
point_written k v w e f s =
    let x = bits_of_coordinate (upper v) (omega arith) in
    let y = bits_of_coordinate (lower v) (omega arith) in
    let z = bits_of_coordinate (lower w) (omega arith) in
    rw (x, y, z) (ap₂ (λ a b. a ∷ b ∷ []) (fields_back k v e) (field_back (k + 1) w f s))

-- the first word of a point
abbrev pub xy_word : ℕ → Point → ℕ
xy_word k p = word k (fourteen_bits p.x * 2 ^ 14 + fourteen_bits p.y)

-- the second
abbrev pub z_word : ℕ → Point → ℕ
z_word k p = word (k + 1) (fourteen_bits p.z)

pub xy_kind : (k : ℕ) (p : Point) → OnDome p → kind (xy_word k p) ≡ k
xy_kind k p h = kind_fields k (fourteen_bits p.x) (fourteen_bits p.y) (bits_below p.x h.0) (bits_below p.y h.1)

pub z_kind : (k : ℕ) (p : Point) → OnDome p → kind (z_word k p) ≡ k + 1
z_kind k p h = kind_word (k + 1) (fourteen_bits p.z) (omega (arith, bits_below p.z h.2))

-- a z word has nothing in its upper field
pub z_spare : (k : ℕ) (p : Point) → OnDome p → upper (z_word k p) ≡ 0
z_spare k p h = upper_field (k + 1) (fourteen_bits p.z) (bits_below p.z h.2)

same_point : (p q : Point) → p.x ≡ q.x → p.y ≡ q.y → p.z ≡ q.z → p ≡ q
same_point p q ex ey ez =
    ap₂ (λ a b. record { x = a; y = b; z = p.z }) ex ey ∙ ap (λ c. record { x = q.x; y = q.y; z = c }) ez

-- a point is read from its two words
pub point_read : (k : ℕ) (p : Point) → OnDome p → point_of (xy_word k p) (z_word k p) ≡ p
point_read k p h =
    let bx = bits_below p.x h.0 in
    let by = bits_below p.y h.1 in
    let bz = bits_below p.z h.2 in
    let ex = ap coordinate (upper_fields k (fourteen_bits p.x) (fourteen_bits p.y) bx by) ∙ coordinate_of_bits p.x h.0 in
    let ey = ap coordinate (lower_fields k (fourteen_bits p.x) (fourteen_bits p.y) bx by) ∙ coordinate_of_bits p.y h.1 in
    let ez = ap coordinate (lower_field (k + 1) (fourteen_bits p.z) bz) ∙ coordinate_of_bits p.z h.2 in
    same_point (point_of (xy_word k p) (z_word k p)) p ex ey ez

pub length_sightings : (ss : List Sighting) → length (flat_map sighting_words ss) ≡ 4 * length ss
length_sightings [] = refl
length_sightings (s ∷ ss) = omega (arith, length_sightings ss)

-- the words of sighting i stand from place 4 i on
pub sightings_at : (ss : List Sighting) (i r : ℕ) (d : Sighting) → i < length ss → r < 4 →
    get_or (flat_map sighting_words ss) (4 * i + r) 0 ≡ get_or (sighting_words (get_or ss i d)) r 0
sightings_at [] i r d h l = absurd (omega arith)
sightings_at (s ∷ ss) zero zero d h l = refl
sightings_at (s ∷ ss) zero (suc zero) d h l = refl
sightings_at (s ∷ ss) zero (suc (suc zero)) d h l = refl
sightings_at (s ∷ ss) zero (suc (suc (suc zero))) d h l = refl
sightings_at (s ∷ ss) zero (suc (suc (suc (suc r)))) d h l = absurd (omega arith)
sightings_at (s ∷ ss) (suc i) r d h l =
    let e : 4 * suc i + r ≡ suc (suc (suc (suc (4 * i + r)))) = omega arith in
    rw e (sightings_at ss i r d (omega arith) l)

-- the kinds of a mark's words are 3, 4, 5 and 6
pub sighting_kind : (s : Sighting) (r : ℕ) → OnDome s.planned → OnDome s.seen → r < 4 →
    kind (get_or (sighting_words s) r 0) ≡ 3 + r
sighting_kind s zero g h l = xy_kind 3 s.planned g
sighting_kind s (suc zero) g h l = z_kind 3 s.planned g
sighting_kind s (suc (suc zero)) g h l = xy_kind 5 s.seen h
sighting_kind s (suc (suc (suc zero))) g h l = z_kind 5 s.seen h
sighting_kind s (suc (suc (suc (suc r)))) g h l = absurd (omega arith)

-- the second and the fourth are z words
pub sighting_spare : (s : Sighting) (r : ℕ) → OnDome s.planned → OnDome s.seen → (r ≡ 1) ⊎ (r ≡ 3) →
    upper (get_or (sighting_words s) r 0) ≡ 0
sighting_spare s r g h (inl e) = rw e (z_spare 3 s.planned g)
sighting_spare s r g h (inr e) = rw e (z_spare 5 s.seen h)
