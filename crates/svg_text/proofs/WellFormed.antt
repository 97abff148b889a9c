-- The text of a drawing is well formed.
use Rattle.std.proofs.Common.{◌≡◌, ℕ, pos, ◌==◌, ◌/◌, ◌<◌, ◌^◌, Bool, true, false, not, ◌&&◌, cond, List, [], ◌∷◌, ◌++◌, Option, Some, None, codes, refl, ap, ◌∙◌, sym, subst, arith, append_assoc}
use Rattle.std.specs.Prelude.{map}
use Rattle.std.specs.List.{AllByRecursion}
use Rattle.std.proofs.lemmas.List.{append-nil}
use Rattle.std.proofs.lemmas.List.Concat.{flat_map-append}
use Rattle.acas_lines.specs.Lines.{joined}
use Rattle.svg_text.specs.Attributes.{Setting, anchor_settings, area_settings, color_text, dash_settings, fill_setting, lettering_settings, opening, outline_element, paint_settings, point_settings, set, set_size, settings_text, shape_element, shape_settings, stroke_settings, turn_settings, weight_settings}
use Rattle.svg_text.specs.Documents.{Section, background, clip_lines, clip_settings, definition_lines, description_line, drawing_lines, end_of_drawing, head_lines, kind_settings, pattern_lines, pattern_settings, root_settings, section_lines, section_settings, sections_lines, shown_settings, stripe_settings, style_settings, view_settings}
use Rattle.svg_text.specs.Escaped.{escaped, escaped_byte, is_printable}
use Rattle.svg_text.specs.Fitting.{FitsFrame, FitsLettering, FitsMark, FitsPaint, FitsSection, FitsShape, FitsStroke, IsArea, IsPoint}
use Rattle.svg_text.specs.Marks.{Mark, after_points, before_points, end_line, figure, mark_lines, marks_lines, point_lines, start_line, title_line, title_lines, traced, words_line, worded}
use Rattle.svg_text.specs.Names.{attribute_name, element_name}
use Rattle.svg_text.specs.Xml.{AreAttributes, IsContent, IsDocument, ampersand, byte, element, element_text, greater, is_among, is_name, is_text_byte, is_value_byte, less, no_more, nothing, one_more, reference}
use Rattle.svg_text.specs.declared.document.Frame.{Frame}
use Rattle.svg_text.specs.declared.names.Attribute.{Attribute}
use Rattle.svg_text.specs.declared.names.Attribute.TheVariants as attributes
use Rattle.svg_text.specs.declared.names.Element.{Element}
use Rattle.svg_text.specs.declared.names.Element.TheVariants as elements
use Rattle.svg_text.specs.declared.shapes.Anchor.{Anchor}
use Rattle.svg_text.specs.declared.shapes.Anchor.TheVariants as anchors
use Rattle.svg_text.specs.declared.shapes.Area.{Area}
use Rattle.svg_text.specs.declared.shapes.Clip.{Clip}
use Rattle.svg_text.specs.declared.shapes.Clip.TheVariants as clips
use Rattle.svg_text.specs.declared.shapes.Color.{Color}
use Rattle.svg_text.specs.declared.shapes.Dash.{Dash}
use Rattle.svg_text.specs.declared.shapes.Dash.TheVariants as dashes
use Rattle.svg_text.specs.declared.shapes.Fill.{Fill}
use Rattle.svg_text.specs.declared.shapes.Lettering.{Lettering}
use Rattle.svg_text.specs.declared.shapes.Outline.{Outline}
use Rattle.svg_text.specs.declared.shapes.Paint.{Paint}
use Rattle.svg_text.specs.declared.shapes.Point.{Point}
use Rattle.svg_text.specs.declared.shapes.Shape.{Shape}
use Rattle.svg_text.specs.declared.shapes.Shape.TheVariants as shapes
use Rattle.svg_text.specs.declared.shapes.Stroke.{Stroke}
use Rattle.svg_text.specs.declared.shapes.Turn.{Turn}
use Rattle.svg_text.specs.declared.shapes.Turn.TheVariants as turns
use Rattle.svg_text.specs.declared.shapes.Weight.{Weight}
use Rattle.svg_text.specs.declared.shapes.Weight.TheVariants as weights
use Rattle.svg_text.proofs.Values.{IsValue, decimal-value, fill-value, points-value, signed-value, stroke-value, turn-value, view-value}

-- ---- content

content-append : {a b : List ℕ} → IsContent a → IsContent b → IsContent (a ++ b)
content-append nothing k = k
content-append {b = b} (byte c rest plain h) k = byte c (rest ++ b) plain (content-append h k)
content-append {b = b} (reference text rest is h) k = subst IsContent (sym (append_assoc text rest b)) (reference text (rest ++ b) is (content-append h k))
content-append {b = b} (element name attributes inside rest names named attributed filled h) k =
    subst IsContent (sym (append_assoc (element_text name attributes inside) rest b)) (element name attributes inside (rest ++ b) names named attributed filled (content-append h k))

feed : (rest : List ℕ) → IsContent rest → IsContent (10 ∷ rest)
unfolding is_text_byte
feed rest h = byte 10 rest refl h

joined-append : (xs ys : List (List ℕ)) → joined (xs ++ ys) ≡ joined xs ++ joined ys
joined-append xs ys = flat_map-append (λ line. line) xs ys

both-lines : (xs ys : List (List ℕ)) → IsContent (joined xs) → IsContent (joined ys) → IsContent (joined (xs ++ ys))
both-lines xs ys g h = subst IsContent (sym (joined-append xs ys)) (content-append g h)

one-line : (line : List ℕ) → IsContent line → IsContent (joined (line ∷ []))
one-line line h = subst IsContent (sym (append-nil line)) h

-- ---- words

choose : (test : Bool) (x y : List ℕ) → (test ≡ true → IsContent x) → (test ≡ false → IsContent y) → IsContent (cond test x y)
choose true x y f g = f refl
choose false x y f g = g refl

plain-byte : (c : ℕ) → (c == 38) ≡ false → (c == 60) ≡ false → (c == 62) ≡ false → is_printable c ≡ true → is_text_byte c ≡ true
unfolding is_text_byte
plain-byte c and lt gt printable = rw (printable, lt, and, gt) refl

question : IsContent (codes "?")
unfolding is_text_byte
question = byte 63 [] refl nothing

byte-content : (c : ℕ) → IsContent (escaped_byte c)
unfolding escaped_byte
byte-content c =
    choose (c == 38) _ _ (λ _. reference (codes "&amp;") [] ampersand nothing) (λ and.
    choose (c == 60) _ _ (λ _. reference (codes "&lt;") [] less nothing) (λ lt.
    choose (c == 62) _ _ (λ _. reference (codes "&gt;") [] greater nothing) (λ gt.
    choose (is_printable c) _ _ (λ printable. byte c [] (plain-byte c and lt gt printable) nothing) (λ _. question))))

escaped-content : (words : List ℕ) → IsContent (escaped words)
escaped-content [] = nothing
escaped-content (c ∷ words) = content-append (byte-content c) (escaped-content words)

-- ---- tags

abbrev Good : List Setting → Type 0
Good settings = AllByRecursion (λ (s : Setting). IsValue s.value) settings

abbrev names_of : List Setting → List (List ℕ)
names_of settings = map (λ (s : Setting). attribute_name s.name) settings

abbrev are_unique : List (List ℕ) → Bool
are_unique [] = true
are_unique (name ∷ names) = not (is_among name names) && are_unique names

attribute-named : (a : Attribute) → is_name (attribute_name a) ≡ true
attribute-named attributes.Namespace = refl
attribute-named a = refl

element-named : (e : Element) → is_name (element_name e) ≡ true
element-named elements.Svg = refl
element-named e = refl

split : (a b : Bool) → (not a && b) ≡ true → (a ≡ false) × (b ≡ true)
split true b e = absurd (cc)
split false b e = (refl, e)

attributes-of : (settings : List Setting) → Good settings → are_unique (names_of settings) ≡ true → AreAttributes (names_of settings) (settings_text settings)
unfolding opening
attributes-of [] good unique = no_more
attributes-of (s ∷ rest) good unique =
    let p = split (is_among (attribute_name s.name) (names_of rest)) (are_unique (names_of rest)) unique in
    one_more (attribute_name s.name) s.value (names_of rest) (settings_text rest) (attribute-named s.name) good.0 p.0 (attributes-of rest good.1 p.1)

regroup : (a n t b c j d : List ℕ) → (a ++ n ++ t ++ b ++ c) ++ (j ++ ((d ++ n ++ b ++ c) ++ [])) ≡ a ++ n ++ t ++ b ++ (c ++ j) ++ d ++ n ++ b ++ c
regroup a n t b c j d = simp (append_assoc, append-nil)

-- The lines of an element, whose tags stand in lines of their own.
element-lines : (e : Element) (settings : List Setting) (inner : List (List ℕ)) → Good settings → are_unique (names_of settings) ≡ true → IsContent (joined inner)
    → IsContent (joined (start_line e settings ∷ (inner ++ (end_line e ∷ []))))
element-lines e settings inner good unique filled =
    subst IsContent (sym (ap (λ t. start_line e settings ++ t) (joined-append inner (end_line e ∷ [])) ∙ regroup (codes "<") (element_name e) (settings_text settings) (codes ">") (codes "\n") (joined inner) (codes "</")))
    (element (element_name e) (settings_text settings) (10 ∷ joined inner) (10 ∷ []) (names_of settings) (element-named e) (attributes-of settings good unique) (feed (joined inner) filled) (feed [] nothing))

title-regroup : (t : List ℕ) → codes "<title>" ++ t ++ codes "</title>" ++ codes "\n" ≡ element_text (codes "title") [] t ++ (10 ∷ [])
title-regroup t = simp append_assoc

title-content : (title : List ℕ) → IsContent (title_line title)
title-content title =
    subst IsContent (sym (title-regroup (escaped title))) (element (codes "title") [] (escaped title) (10 ∷ []) [] refl no_more (escaped-content title) (feed [] nothing))

description-regroup : (t : List ℕ) → codes "<desc>" ++ t ++ codes "</desc>" ++ codes "\n" ≡ element_text (codes "desc") [] t ++ (10 ∷ [])
description-regroup t = simp append_assoc

description-content : (words : List ℕ) → IsContent (description_line words)
description-content words =
    subst IsContent (sym (description-regroup (escaped words))) (element (codes "desc") [] (escaped words) (10 ∷ []) [] refl no_more (escaped-content words) (feed [] nothing))

titles-content : (title : List ℕ) → IsContent (joined (title_lines title))
titles-content [] = nothing
titles-content (c ∷ title) = one-line (title_line (c ∷ title)) (title-content (c ∷ title))

-- ---- paint

good-append : (xs ys : List Setting) → Good xs → Good ys → Good (xs ++ ys)
good-append [] ys g h = h
good-append (x ∷ xs) ys g h = (g.0, good-append xs ys g.1 h)

dash-good : (dash : Dash) → Good (dash_settings dash)
unfolding is_value_byte
dash-good dashes.Solid = tt
dash-good dashes.Long = (refl, tt)
dash-good dashes.Short = (refl, tt)
dash-good dashes.Sparse = (refl, tt)
dash-good dashes.Dotted = (refl, tt)
dash-good dashes.LongAndDot = (refl, tt)

stroke-good : (stroke : Option Stroke) → FitsStroke stroke → Good (stroke_settings stroke)
stroke-good None h = tt
stroke-good (Some stroke) h = (stroke-value stroke.color, (decimal-value stroke.width (omega (arith, h)), dash-good stroke.dash))

paint-good : (paint : Paint) → FitsPaint paint → Good (paint_settings paint)
paint-good paint h = (fill-value paint.fill, stroke-good paint.stroke h)

-- ---- shapes

area-good : (area : Area) → IsArea area → Good (area_settings area)
area-good area h = (
  signed-value area.corner.x h.corner.x,
  (
    signed-value area.corner.y h.corner.y,
    (decimal-value area.width (omega (arith, h.width)), (decimal-value area.height (omega (arith, h.height)), tt)),
  ),
)

shape-good : (shape : Shape) → FitsShape shape → Good (shape_settings shape)
shape-good (shapes.Rect area) h = area-good area h
shape-good (shapes.Segment from to) h = (signed-value from.x h.0.x, (signed-value from.y h.0.y, (signed-value to.x h.1.x, (signed-value to.y h.1.y, tt))))
shape-good (shapes.Circle center radius) h = (signed-value center.x h.0.x, (signed-value center.y h.0.y, (decimal-value radius (omega (arith, h.1)), tt)))

abbrev stroked : Fill → Color → ℕ → Dash → List Setting
stroked fill color width dash = fill_setting fill ∷ set attributes.Stroke (color_text color) ∷ set_size attributes.StrokeWidth width ∷ dash_settings dash

shape-dash : (shape : Shape) (fill : Fill) (color : Color) (width : ℕ) (dash : Dash) → are_unique (names_of (shape_settings shape ++ stroked fill color width dash)) ≡ true
shape-dash (shapes.Rect area) fill color width dashes.Solid = refl
shape-dash (shapes.Rect area) fill color width dash = refl
shape-dash (shapes.Segment from to) fill color width dashes.Solid = refl
shape-dash (shapes.Segment from to) fill color width dash = refl
shape-dash (shapes.Circle center radius) fill color width dashes.Solid = refl
shape-dash (shapes.Circle center radius) fill color width dash = refl

shape-stroke : (shape : Shape) (fill : Fill) (stroke : Option Stroke) → are_unique (names_of (shape_settings shape ++ (fill_setting fill ∷ stroke_settings stroke))) ≡ true
shape-stroke (shapes.Rect area) fill None = refl
shape-stroke (shapes.Segment from to) fill None = refl
shape-stroke (shapes.Circle center radius) fill None = refl
shape-stroke shape fill (Some stroke) = shape-dash shape fill stroke.color stroke.width stroke.dash

figure-content : (shape : Shape) (paint : Paint) (title : List ℕ) → FitsShape shape → FitsPaint paint → IsContent (joined (mark_lines (figure shape paint title)))
unfolding mark_lines
figure-content shape paint title g h =
    element-lines (shape_element shape) (shape_settings shape ++ paint_settings paint) (title_lines title)
    (good-append (shape_settings shape) (paint_settings paint) (shape-good shape g) (paint-good paint h)) (shape-stroke shape paint.fill paint.stroke) (titles-content title)

-- ---- points

traced-regroup : (a n o c v q s b j d : List ℕ) → (a ++ n ++ o ++ c) ++ (v ++ ((q ++ s ++ (b ++ c)) ++ (j ++ ((d ++ n ++ b ++ c) ++ []))))
    ≡ a ++ n ++ ((o ++ (c ++ v) ++ q) ++ s) ++ b ++ (c ++ j) ++ d ++ n ++ b ++ c
traced-regroup a n o c v q s b j d = simp (append_assoc, append-nil)

points-dash : (points : List ℕ) (fill : Fill) (color : Color) (width : ℕ) (dash : Dash) → are_unique (names_of (set attributes.Points points ∷ stroked fill color width dash)) ≡ true
points-dash points fill color width dashes.Solid = refl
points-dash points fill color width dash = refl

points-stroke : (points : List ℕ) (fill : Fill) (stroke : Option Stroke) → are_unique (names_of (set attributes.Points points ∷ fill_setting fill ∷ stroke_settings stroke)) ≡ true
points-stroke points fill None = refl
points-stroke points fill (Some stroke) = points-dash points fill stroke.color stroke.width stroke.dash

traced-content : (outline : Outline) (points : List Point) (paint : Paint) (title : List ℕ) → AllByRecursion IsPoint points → FitsPaint paint → IsContent (joined (mark_lines (traced outline points paint title)))
unfolding mark_lines
traced-content outline points paint title g h =
    subst IsContent (sym (ap (λ t. before_points outline ++ t) (joined-append (point_lines points) (after_points paint ∷ (title_lines title ++ (end_line e ∷ []))))
    ∙ ap (λ t. before_points outline ++ (joined (point_lines points) ++ (after_points paint ++ t))) (joined-append (title_lines title) (end_line e ∷ []))
    ∙ traced-regroup (codes "<") (element_name e) (opening attributes.Points) (codes "\n") (joined (point_lines points)) (codes "\"") (settings_text (paint_settings paint)) (codes ">") (joined (title_lines title)) (codes "</")))
    (element (element_name e) (settings_text settings) (10 ∷ joined (title_lines title)) (10 ∷ []) (names_of settings) (element-named e)
    (attributes-of settings (points-value points g, paint-good paint h) (points-stroke value paint.fill paint.stroke)) (feed (joined (title_lines title)) (titles-content title)) (feed [] nothing))
  where
    e : Element
    e = outline_element outline

    value : List ℕ
    value = codes "\n" ++ joined (point_lines points)

    settings : List Setting
    settings = set attributes.Points value ∷ paint_settings paint

-- ---- words

anchor-good : (anchor : Anchor) → Good (anchor_settings anchor)
unfolding is_value_byte
anchor-good anchors.Start = tt
anchor-good anchors.Middle = (refl, tt)
anchor-good anchors.End = (refl, tt)

weight-good : (weight : Weight) → Good (weight_settings weight)
unfolding is_value_byte
weight-good weights.Regular = tt
weight-good weights.Bold = (refl, tt)

turn-good : (turn : Turn) (at : Point) → IsPoint at → Good (turn_settings turn at)
turn-good turns.Level at h = tt
turn-good turns.Upward at h = (turn-value at h, tt)

abbrev front : Point → ℕ → Anchor → Weight → Turn → List Setting
front at size anchor weight turn =
    (point_settings attributes.X attributes.Y at ++ (set_size attributes.FontSize size ∷ [])) ++ anchor_settings anchor ++ weight_settings weight ++ turn_settings turn at

front-good : (at : Point) (size : ℕ) (anchor : Anchor) (weight : Weight) (turn : Turn) → IsPoint at → size < 2 ^ 16 → Good (front at size anchor weight turn)
front-good at size anchor weight turn h k =
    good-append (place ++ anchor_settings anchor ++ weight_settings weight) (turn_settings turn at)
    (good-append (place ++ anchor_settings anchor) (weight_settings weight)
    (good-append place (anchor_settings anchor) (signed-value at.x h.x, (signed-value at.y h.y, (decimal-value size (omega (arith, k)), tt))) (anchor-good anchor)) (weight-good weight)) (turn-good turn at h)
  where
    place : List Setting
    place = point_settings attributes.X attributes.Y at ++ (set_size attributes.FontSize size ∷ [])

front-dash : (at : Point) (size : ℕ) (anchor : Anchor) (weight : Weight) (turn : Turn) (fill : Fill) (color : Color) (width : ℕ) (dash : Dash)
    → are_unique (names_of (front at size anchor weight turn ++ stroked fill color width dash)) ≡ true
front-dash at size anchors.Start weights.Regular turns.Level fill color width dashes.Solid = refl
front-dash at size anchors.Start weights.Regular turns.Level fill color width dash = refl
front-dash at size anchors.Start weights.Regular turns.Upward fill color width dashes.Solid = refl
front-dash at size anchors.Start weights.Regular turns.Upward fill color width dash = refl
front-dash at size anchors.Start weights.Bold turns.Level fill color width dashes.Solid = refl
front-dash at size anchors.Start weights.Bold turns.Level fill color width dash = refl
front-dash at size anchors.Start weights.Bold turns.Upward fill color width dashes.Solid = refl
front-dash at size anchors.Start weights.Bold turns.Upward fill color width dash = refl
front-dash at size anchors.Middle weights.Regular turns.Level fill color width dashes.Solid = refl
front-dash at size anchors.Middle weights.Regular turns.Level fill color width dash = refl
front-dash at size anchors.Middle weights.Regular turns.Upward fill color width dashes.Solid = refl
front-dash at size anchors.Middle weights.Regular turns.Upward fill color width dash = refl
front-dash at size anchors.Middle weights.Bold turns.Level fill color width dashes.Solid = refl
front-dash at size anchors.Middle weights.Bold turns.Level fill color width dash = refl
front-dash at size anchors.Middle weights.Bold turns.Upward fill color width dashes.Solid = refl
front-dash at size anchors.Middle weights.Bold turns.Upward fill color width dash = refl
front-dash at size anchors.End weights.Regular turns.Level fill color width dashes.Solid = refl
front-dash at size anchors.End weights.Regular turns.Level fill color width dash = refl
front-dash at size anchors.End weights.Regular turns.Upward fill color width dashes.Solid = refl
front-dash at size anchors.End weights.Regular turns.Upward fill color width dash = refl
front-dash at size anchors.End weights.Bold turns.Level fill color width dashes.Solid = refl
front-dash at size anchors.End weights.Bold turns.Level fill color width dash = refl
front-dash at size anchors.End weights.Bold turns.Upward fill color width dashes.Solid = refl
front-dash at size anchors.End weights.Bold turns.Upward fill color width dash = refl

front-stroke : (at : Point) (size : ℕ) (anchor : Anchor) (weight : Weight) (turn : Turn) (fill : Fill) (stroke : Option Stroke)
    → are_unique (names_of (front at size anchor weight turn ++ (fill_setting fill ∷ stroke_settings stroke))) ≡ true
front-stroke at size anchor weight turn fill (Some stroke) = front-dash at size anchor weight turn fill stroke.color stroke.width stroke.dash
front-stroke at size anchors.Start weights.Regular turns.Level fill None = refl
front-stroke at size anchors.Start weights.Regular turns.Upward fill None = refl
front-stroke at size anchors.Start weights.Bold turns.Level fill None = refl
front-stroke at size anchors.Start weights.Bold turns.Upward fill None = refl
front-stroke at size anchors.Middle weights.Regular turns.Level fill None = refl
front-stroke at size anchors.Middle weights.Regular turns.Upward fill None = refl
front-stroke at size anchors.Middle weights.Bold turns.Level fill None = refl
front-stroke at size anchors.Middle weights.Bold turns.Upward fill None = refl
front-stroke at size anchors.End weights.Regular turns.Level fill None = refl
front-stroke at size anchors.End weights.Regular turns.Upward fill None = refl
front-stroke at size anchors.End weights.Bold turns.Level fill None = refl
front-stroke at size anchors.End weights.Bold turns.Upward fill None = refl

worded-content : (it : Lettering) (words title : List ℕ) → FitsLettering it → IsContent (joined (mark_lines (worded it words title)))
unfolding mark_lines
worded-content it words title h =
    subst (λ (lines : List (List ℕ)). IsContent (joined (start_line elements.Text (lettering_settings it) ∷ lines))) (append_assoc (title_lines title) (words_line words ∷ []) (end_line elements.Text ∷ []))
    (element-lines elements.Text (lettering_settings it) (title_lines title ++ (words_line words ∷ []))
    (good-append (front it.at it.size it.anchor it.weight it.turn) (paint_settings it.paint) (front-good it.at it.size it.anchor it.weight it.turn h.at h.size) (paint-good it.paint h.paint))
    (front-stroke it.at it.size it.anchor it.weight it.turn it.paint.fill it.paint.stroke)
    (both-lines (title_lines title) (words_line words ∷ []) (titles-content title) (one-line (words_line words) (content-append (escaped-content words) (feed [] nothing)))))

-- ---- marks and sections

mark-content : (mark : Mark) → FitsMark mark → IsContent (joined (mark_lines mark))
mark-content (figure shape paint title) h = figure-content shape paint title h.0 h.1
mark-content (traced outline points paint title) h = traced-content outline points paint title h.0 h.1
mark-content (worded it words title) h = worded-content it words title h

marks-content : (marks : List Mark) → AllByRecursion FitsMark marks → IsContent (joined (marks_lines marks))
unfolding marks_lines
marks-content [] h = nothing
marks-content (mark ∷ marks) h = both-lines (mark_lines mark) (marks_lines marks) (mark-content mark h.0) (marks-content marks h.1)

section-good : (clip : Clip) → Good (section_settings clip)
unfolding is_value_byte
section-good clips.Whole = tt
section-good clips.Window = (refl, tt)

section-unique : (clip : Clip) → are_unique (names_of (section_settings clip)) ≡ true
section-unique clips.Whole = refl
section-unique clips.Window = refl

sections-content : (sections : List Section) → AllByRecursion FitsSection sections → IsContent (joined (sections_lines sections))
sections-content [] h = nothing
sections-content (section ∷ sections) h =
    both-lines (section_lines section) (sections_lines sections)
    (element-lines elements.Group (section_settings section.clip) (marks_lines section.marks) (section-good section.clip) (section-unique section.clip) (marks-content section.marks h.0))
    (sections-content sections h.1)

-- ---- the head

pattern-good : Good pattern_settings
unfolding is_value_byte
pattern-good = (refl, (refl, (refl, (refl, (refl, tt)))))

stripe-good : Good stripe_settings
unfolding is_value_byte
stripe-good = (refl, (refl, (refl, (refl, tt))))

clip-good : Good clip_settings
unfolding is_value_byte
clip-good = (refl, tt)

rect-content : (settings : List Setting) → Good settings → are_unique (names_of settings) ≡ true → IsContent (joined (start_line elements.Rect settings ∷ end_line elements.Rect ∷ []))
rect-content settings good unique = element-lines elements.Rect settings [] good unique nothing

pattern-content : IsContent (joined pattern_lines)
pattern-content =
    element-lines elements.Pattern pattern_settings (start_line elements.Rect stripe_settings ∷ end_line elements.Rect ∷ []) pattern-good refl (rect-content stripe_settings stripe-good refl)

clip-content : (frame : Frame) → FitsFrame frame → IsContent (joined (clip_lines frame))
clip-content frame h =
    element-lines elements.ClipPath clip_settings (start_line elements.Rect (area_settings frame.window) ∷ end_line elements.Rect ∷ []) clip-good refl
    (rect-content (area_settings frame.window) (area-good frame.window h.window) refl)

definition-content : (frame : Frame) → FitsFrame frame → IsContent (joined (definition_lines frame))
definition-content frame h =
    element-lines elements.Defs [] (pattern_lines ++ clip_lines frame) tt refl (both-lines pattern_lines (clip_lines frame) pattern-content (clip-content frame h))

origin : IsPoint (record { x = pos 0; y = pos 0 })
origin = record { x = omega arith; y = omega arith }

background-fits : (frame : Frame) → FitsFrame frame → AllByRecursion FitsMark (background frame ∷ [])
background-fits frame h = ((record { corner = origin; width = h.width; height = h.height }, tt), tt)

kind-good : Good kind_settings
unfolding is_value_byte kind_settings
kind-good = (refl, (refl, tt))

style-good : Good style_settings
unfolding is_value_byte style_settings
style-good = (refl, (refl, tt))

view-good : (frame : Frame) → FitsFrame frame → Good (view_settings frame)
unfolding view_settings
view-good frame h = (view-value frame h, tt)

shown-good : (frame : Frame) → FitsFrame frame → Good (shown_settings frame)
unfolding shown_settings
shown-good frame h = (decimal-value (frame.width / 20) (omega (arith, h.width)), (decimal-value (frame.height / 20) (omega (arith, h.height)), tt))

root-good : (frame : Frame) → FitsFrame frame → Good (root_settings frame)
root-good frame h =
    good-append (kind_settings ++ view_settings frame ++ shown_settings frame) style_settings
    (good-append (kind_settings ++ view_settings frame) (shown_settings frame) (good-append kind_settings (view_settings frame) kind-good (view-good frame h)) (shown-good frame h)) style-good

root-unique : (frame : Frame) → are_unique (names_of (root_settings frame)) ≡ true
unfolding kind_settings view_settings shown_settings style_settings
root-unique frame = refl

drawing-regroup : (a n t b c x s d : List ℕ) → ((a ++ n ++ t ++ b ++ c) ++ x) ++ (s ++ ((d ++ n ++ b ++ c) ++ [])) ≡ a ++ n ++ t ++ b ++ (c ++ (x ++ s)) ++ d ++ n ++ b ++ c
drawing-regroup a n t b c x s d = simp (append_assoc, append-nil)

pub form : (frame : Frame) (title description : List ℕ) (sections : List Section) → FitsFrame frame → AllByRecursion FitsSection sections
    → IsDocument (joined (drawing_lines frame title description sections))
form frame title description sections g h = record {
  name = codes "svg";
  names = names_of (root_settings frame);
  attributes = settings_text (root_settings frame);
  inside = 10 ∷ (before ++ after);
  named = refl;
  attributed = attributes-of (root_settings frame) (root-good frame g) (root-unique frame);
  filled = feed (before ++ after) (content-append before-content (sections-content sections h));
  whole =
      joined-append (head_lines frame title description) (sections_lines sections ++ (end_of_drawing ∷ []))
      ∙ ap (λ t. joined (head_lines frame title description) ++ t) (joined-append (sections_lines sections) (end_of_drawing ∷ []))
      ∙ drawing-regroup (codes "<") (codes "svg") (settings_text (root_settings frame)) (codes ">") (codes "\n") before after (codes "</");
}
  where
    inner : List (List ℕ)
    inner = definition_lines frame ++ marks_lines (background frame ∷ [])

    before : List ℕ
    before = title_line title ++ (description_line description ++ joined inner)

    after : List ℕ
    after = joined (sections_lines sections)

    before-content : IsContent before
    before-content =
        content-append (title-content title) (content-append (description-content description)
        (both-lines (definition_lines frame) (marks_lines (background frame ∷ [])) (definition-content frame g) (marks-content (background frame ∷ []) (background-fits frame g))))
