pub mod ExampleLists
