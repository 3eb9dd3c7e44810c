pub mod TweenLaws
